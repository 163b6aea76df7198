-- Which lines a resolution reads, and which line it is refused for. Assumes nothing.
use Rattle.std.specs.Prelude.{◌≡◌, ℕ, true, false, ◌⊎◌, List, [], ◌∷◌, ◌++◌, map, length, is_some, None, Option}
use Rattle.std.specs.List.{list_any}
use Rattle.kallsyms.specs.Ends.{End}
use Rattle.model.specs.Externs.{Extern}
use Rattle.model.specs.Lines.{said}
use Rattle.model.specs.Lists.{In, first, numbered}
use Rattle.model.specs.Resolve.{typed_refusal, wanted, line_refusal, resolve_refusal, left_unread}
use Rattle.model.specs.Tables.{Catalogue}

-- lines are read: no typed extern is refused, and a name is wanted
abbrev pub Reads : Option Catalogue → List Extern → Type 0
Reads c xs = (first (typed_refusal c) 0 xs ≡ None) × (list_any wanted xs ≡ true)

-- a line among these is refused, with the externs that are wanted
abbrev pub Refuses : List Extern → List (List ℕ) → List ℕ → Type 0
Refuses xs ls l = is_some (line_refusal xs (map said ls) (said l)) ≡ true

-- if a typed extern is refused or no name is wanted, no line is read; else if no line is refused, every line is; else those up to the
-- first that is refused, and the refusal is that line's, with the number of lines before it
pub record LinesAreRead : Type 0 where
  pub unread : (c : Option Catalogue) (ls : List (List ℕ)) (xs : List Extern)
      → (is_some (first (typed_refusal c) 0 xs) ≡ true) ⊎ (list_any wanted xs ≡ false) → left_unread c ls xs ≡ ls
  pub all_read : (c : Option Catalogue) (ls : List (List ℕ)) (xs : List Extern)
      → Reads c xs → ((l : List ℕ) → In l ls → Refuses xs ls l → ⊥) → left_unread c ls xs ≡ []
  pub read_to : (c : Option Catalogue) (xs : List Extern) (front : List (List ℕ)) (l : List ℕ) (back : List (List ℕ))
      → Reads c xs
      → ((k : List ℕ) → In k front → Refuses xs (front ++ l ∷ back) k → ⊥)
      → Refuses xs (front ++ l ∷ back) l
      → left_unread c (front ++ l ∷ back) xs ≡ back
  pub refused : (c : Option Catalogue) (xs : List Extern) (front : List (List ℕ)) (l : List ℕ) (back : List (List ℕ)) (e : End)
      → Reads c xs
      → ((k : List ℕ) → In k front → Refuses xs (front ++ l ∷ back) k → ⊥)
      → Refuses xs (front ++ l ∷ back) l
      → resolve_refusal c (front ++ l ∷ back) e xs ≡ numbered (length front) (line_refusal xs (map said (front ++ l ∷ back)) (said l))
