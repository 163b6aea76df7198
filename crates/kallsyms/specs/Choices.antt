-- Why the lines of a source of one of two kinds are good. Assumes nothing.
use Rattle.std.specs.Prelude.{ℕ, List}
use Rattle.kallsyms.specs.Line.{GoodLines}
use Rattle.either.specs.Either.{either}
use Rattle.either.specs.declared.Either.{Either}
use Rattle.either.specs.declared.Either.TheVariants.{Left, Right}

pub good_chosen : {X Y : Type 0} (f : X → List (List ℕ)) (g : Y → List (List ℕ)) → ((x : X) → GoodLines (f x)) → ((y : Y) → GoodLines (g y)) → (e : Either X Y) → GoodLines (either f g e)
good_chosen f g p q (Left x) = p x
good_chosen f g p q (Right y) = q y
