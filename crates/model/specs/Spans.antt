-- Parts of tables. Assumes nothing.
use Rattle.std.specs.Prelude.{ℕ, ◌+◌, ◌<◌, ◌≤◌, Bool, ◌&&◌, ◌⊎◌, List, [], ◌∷◌, length, take, drop, ◌==◌, nat_le}
use Rattle.model.specs.declared.rows.Span.{Span}

abbrev pub no_parts : Span
no_parts = record { start = 0; len = 0 }

-- the number of the row after the last
abbrev pub end_of : Span → ℕ
end_of s = s.start + s.len

-- the rows of a table that a span has
abbrev pub part : {X : Type 0} → List X → Span → List X
part xs s = take s.len (drop s.start xs)

-- whether a part lies inside the table
abbrev pub inside : {X : Type 0} → List X → Span → Bool
inside xs s = nat_le (end_of s) (length xs)

-- whether each span starts where the one before it ended, the first at `at`, and the last ends inside a table of n rows
abbrev pub follow : ℕ → List Span → ℕ → Bool
follow at [] n = nat_le at n
follow at (s ∷ ss) n = s.start == at && follow (at + s.len) ss n

-- a row k is none of a part
abbrev pub Outside : Span → ℕ → Type 0
Outside s k = (k < s.start) ⊎ (end_of s ≤ k)
