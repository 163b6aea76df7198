-- What follows from the definitions, in the words of a reader of kernel lists. Assumes nothing.
use Rattle.std.specs.Prelude.{◌≡◌, ℕ, ◌+◌, ◌<◌, true, List, [], ◌∷◌, ◌++◌, length, take, drop, Some, None, codes}
use Rattle.std.specs.List.{AllByRecursion}
use Rattle.kallsyms.specs.Ends.{clean}
use Rattle.kallsyms.specs.Line.{GoodLine}
use Rattle.kallsyms.specs.Means.{NoFeed, NoReturn, OneMeaning}
use Rattle.kallsyms.specs.Cut.{lines_from, end_from}
use Rattle.kallsyms.specs.Fields.{Part, separates, fields, field}
use Rattle.kallsyms.specs.Splits.{Unbroken, Splits}
use Rattle.kallsyms.specs.Address.{address}

-- every text means the lines and the end that are cut from it, and no others
abbrev pub TextsHaveOneMeaning : Type 0
TextsHaveOneMeaning = (bs : List ℕ) → OneMeaning bs (lines_from 1 bs) (end_from 1 bs)

-- each line and its terminator, in turn
abbrev pub written : List ℕ → List (List ℕ) → List ℕ
written t [] = []
written t (l ∷ ls) = l ++ (t ++ written t ls)

-- a text made of lines with a byte 10 after each means exactly those lines, and ends clean, if no line has a byte 10 or a byte 13 at its end
abbrev pub WrittenLinesAreRead : Type 0
WrittenLinesAreRead =
    (ls : List (List ℕ)) → AllByRecursion (λ l. GoodLine l × NoFeed l × NoReturn l) ls
    → (lines_from 1 (written (10 ∷ []) ls) ≡ ls) × (end_from 1 (written (10 ∷ []) ls) ≡ clean)

-- and with bytes 13 and 10 after each, a line may have a byte 13 at its end too
abbrev pub ReturnedLinesAreRead : Type 0
ReturnedLinesAreRead =
    (ls : List (List ℕ)) → AllByRecursion (λ l. GoodLine l × NoFeed l) ls
    → (lines_from 1 (written (13 ∷ 10 ∷ []) ls) ≡ ls) × (end_from 1 (written (13 ∷ 10 ∷ []) ls) ≡ clean)

-- every line splits into the fields that are found in it, and into no others
abbrev pub LinesHaveOneListOfFields : Type 0
LinesHaveOneListOfFields = (l : List ℕ) → Splits 0 (fields 0 l) l × ((ps : List Part) → Splits 0 ps l → ps ≡ fields 0 l)

-- a field stands in the line at its place, is not empty, and has no separator
abbrev pub FieldsAreParts : Type 0
FieldsAreParts =
    (l : List ℕ) (k : ℕ) → k < length (fields 0 l)
    → (take (length (field k l).bytes) (drop (field k l).start l) ≡ (field k l).bytes) × (0 < length (field k l).bytes) × Unbroken (field k l).bytes

-- three words with one separator between two of them are the three fields, and their places are counted from 0
abbrev pub WordsAreFields : Type 0
WordsAreFields =
    (a t n : List ℕ) (s u : ℕ) → separates s ≡ true → separates u ≡ true
    → Unbroken a → Unbroken t → Unbroken n → 0 < length a → 0 < length t → 0 < length n
    → fields 0 (a ++ (s ∷ (t ++ (u ∷ n)))) ≡ record { start = 0; bytes = a } ∷ record { start = length a + 1; bytes = t } ∷ record { start = length a + 1 + length t + 1; bytes = n } ∷ []

-- worked addresses: a sign, leading zeros, and what does not read
pub record AddressCases : Type 0 where
  pub signed : address (codes "+ff") ≡ Some 255
  pub either_case : address (codes "aF") ≡ Some 175
  pub seventeen : address (codes "00000000000000001") ≡ Some 1
  pub greatest : address (codes "ffffffffffffffff") ≡ Some 18446744073709551615
  pub too_large : address (codes "10000000000000000") ≡ None
  pub sign_alone : address (codes "+") ≡ None
  pub two_signs : address (codes "++1") ≡ None
  pub minus : address (codes "-0") ≡ None
  pub prefixed : address (codes "0xff") ≡ None
  pub empty : address [] ≡ None
