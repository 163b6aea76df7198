-- Names of one of two kinds. Assumes nothing.
use Rattle.std.specs.Prelude.{ℕ, List, Option, IfSome, IsSome}
use Rattle.either.specs.Either.{either}
use Rattle.either.specs.declared.Either.{Either}
use Rattle.either.specs.declared.Either.TheVariants.{Left, Right}
use Rattle.lookup.specs.Says.{Says}
use Rattle.lookup.specs.declared.sighting.Sighting.{Sighting}

module _ {X Y : Type 0} where
  -- what holds of the one that it is
  abbrev pub Holds : (List (List ℕ) → X → Type 0) → (List (List ℕ) → Y → Type 0) → List (List ℕ) → Either X Y → Type 0
  Holds H K ls (Left a) = H ls a
  Holds H K ls (Right b) = K ls b

  -- both are of one kind, and the relation of that kind holds of them
  abbrev pub Alike : (X → X → Type 0) → (Y → Y → Type 0) → Either X Y → Either X Y → Type 0
  Alike P Q (Left a) (Left b) = P a b
  Alike P Q (Left a) (Right b) = ⊥
  Alike P Q (Right a) (Left b) = ⊥
  Alike P Q (Right a) (Right b) = Q a b

  -- relations that hold twice in turn hold
  pub alike_twice : (P : X → X → Type 0) (Q : Y → Y → Type 0)
      → ((a b c : X) → P a b → P b c → P a c) → ((a b c : Y) → Q a b → Q b c → Q a c)
      → (a b c : Either X Y) → Alike P Q a b → Alike P Q b c → Alike P Q a c
  alike_twice P Q p q (Left a) (Left b) (Left c) e f = p a b c e f
  alike_twice P Q p q (Left a) (Left b) (Right c) e f = absurd f
  alike_twice P Q p q (Left a) (Right b) c e f = absurd e
  alike_twice P Q p q (Right a) (Left b) c e f = absurd e
  alike_twice P Q p q (Right a) (Right b) (Left c) e f = absurd f
  alike_twice P Q p q (Right a) (Right b) (Right c) e f = q a b c e f

  -- what is said of a name by the one that it is
  pub chosen_says : (H : List (List ℕ) → X → Type 0) (K : List (List ℕ) → Y → Type 0) (f : X → List ℕ → Option Sighting) (g : Y → List ℕ → Option Sighting)
      → ((ls : List (List ℕ)) (m : X) → H ls m → (name : List ℕ) → IfSome (f m name) (Says ls name))
      → ((ls : List (List ℕ)) (m : Y) → K ls m → (name : List ℕ) → IfSome (g m name) (Says ls name))
      → (ls : List (List ℕ)) (m : Either X Y) → Holds H K ls m → (name : List ℕ) → IfSome (either f g m name) (Says ls name)
  chosen_says H K f g p q ls (Left a) h = p ls a h
  chosen_says H K f g p q ls (Right b) h = q ls b h

  pub chosen_has : (P : X → X → Type 0) (Q : Y → Y → Type 0) (f : X → List ℕ → Option Sighting) (g : Y → List ℕ → Option Sighting)
      → ((a b : X) → P a b → (name : List ℕ) → IsSome (f a name) → IsSome (f b name))
      → ((a b : Y) → Q a b → (name : List ℕ) → IsSome (g a name) → IsSome (g b name))
      → (a b : Either X Y) → Alike P Q a b → (name : List ℕ) → IsSome (either f g a name) → IsSome (either f g b name)
  chosen_has P Q f g p q (Left a) (Left b) h = p a b h
  chosen_has P Q f g p q (Left a) (Right b) h = absurd h
  chosen_has P Q f g p q (Right a) (Left b) h = absurd h
  chosen_has P Q f g p q (Right a) (Right b) h = q a b h
