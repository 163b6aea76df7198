-- What relocation makes of the slots, and of a load's two slots.
use Rattle.std.proofs.lemmas.Grind.{common_steps}
use Rattle.std.proofs.Common.{rules, ◌≡◌, ℕ, suc, ◌+◌, ◌<◌, Bool, true, eqb, ◌⊎◌, List, [], ◌∷◌, ◌++◌, length, set, ℤ, is_some, Some, None, Ok, Err, Option, Result, sym, refl, ap, ◌∙◌, subst, inl, inr, ⊎_elim, arith, w32, SFits}
use Rattle.std.proofs.lemmas.Bool.{cond_both, eqb-true, ltb-true}
use Rattle.model.specs.Externs.{Extern, extern_named}
use Rattle.model.specs.Laws.{name_in, name_of, Touches, LoadAlone}
use Rattle.model.specs.Lists.{In}
use Rattle.model.specs.Relocate.{Program, function_slots, Taken, taken, taken_in, points_into, slot_index, has_next, slot_at, is_call, is_load, call_slot, load_value, with_call, with_pair, with_load, patch_extern, patch_found, patch_name, patch_symbol, patch, patched, relocated}
use Rattle.model.specs.SlotLaws.{FitsSlot}
use Rattle.model.specs.Slots.{LOAD, CALL, low, high, with_imm, with_src}
use Rattle.model.specs.Spans.{part, follow}
use Rattle.model.specs.Tables.{Symbols}
use Rattle.model.specs.declared.refusal.Reason.{Reason}
use Rattle.model.specs.declared.rows.Function.{Function}
use Rattle.model.specs.declared.rows.Relocation.{Relocation}
use Rattle.model.specs.declared.rows.Slot.{Slot}
use Rattle.model.specs.declared.rows.Span.{Span}
use Rattle.model.specs.declared.rows.Symbol.{Symbol}
use Rattle.model.proofs.Followed.{follow_in}
use Rattle.model.proofs.Granted.{go_on}
use Rattle.model.proofs.Lookups.{ok_same, err_not, in_map}

-- ---- where the relocations taken point
in_append : {X : Type 0} (xs ys : List X) (x : X) → In x (xs ++ ys) → In x xs ⊎ In x ys
in_append [] ys x i = inr i
in_append (y ∷ xs) ys x (inl q) = inl (inl q)
in_append (y ∷ xs) ys x (inr i) = ⊎_elim (λ j. inl (inr j)) (λ j. inr j) (in_append xs ys x i)

in_right : {X : Type 0} (xs ys : List X) (x : X) → In x ys → In x (xs ++ ys)
in_right [] ys x i = i
in_right (y ∷ xs) ys x i = inr (in_right xs ys x i)

taken_in_of : (f : Function) (n : ℕ) (rs : List Relocation) (t : Taken) → In t (taken_in f n rs) → f ≡ t.function
taken_in_of f n [] t i = absurd i
taken_in_of f n (r ∷ rs) t i =
    cond_both (points_into f r) (record { function = f; row = n; relocation = r } ∷ taken_in f (suc n) rs) (taken_in f (suc n) rs) (λ ts. In t ts → f ≡ t.function)
    (λ _ j. ⊎_elim (λ q. ap (λ u. u.function) q) (λ k. taken_in_of f (suc n) rs t k) j)
    (λ _ j. taken_in_of f (suc n) rs t j)
    i

taken_of : (fs : List Function) (rs : List Relocation) (t : Taken) → In t (taken fs rs) → In t.function fs
taken_of [] rs t i = absurd i
taken_of (f ∷ fs) rs t i = ⊎_elim (λ j. inl (taken_in_of f 0 rs t j)) (λ j. inr (taken_of fs rs t j)) (in_append (taken_in f 0 rs) (taken fs rs) t i)

-- ---- what one relocation changes
abbrev pub EachFits : List Slot → Type 0
EachFits code = (i : ℕ) → FitsSlot (slot_at code i)

-- the codes stay, and each slot that T leaves out; slots that fit in eight bytes do so after it
record Changed (T : ℕ → Type 0) (old new : List Slot) : Type 0 where
  len : length new ≡ length old
  codes : (i : ℕ) → (slot_at new i).code ≡ (slot_at old i).code
  others : (i : ℕ) → (T i → ⊥) → slot_at new i ≡ slot_at old i
  fit : EachFits old → EachFits new

changed_none : (T : ℕ → Type 0) (code : List Slot) → Changed T code code
changed_none T code = search rules

changed_set : (T : ℕ → Type 0) (code : List Slot) (i : ℕ) (s : Slot) → T i → s.code ≡ (slot_at code i).code → (EachFits code → FitsSlot s) → Changed T code (set code i s)
changed_set T code i s t e f = grind (arith, common_steps)

-- ---- a call
record Kin (s new : Slot) : Type 0 where
  code : new.code ≡ s.code
  fit : FitsSlot s → FitsSlot new

module _ (name : Span) (t : Taken) (s new : Slot) (h : s.code ≡ CALL) where
  call_kin : (id : Option ℕ) (resolved weak : Bool) → call_slot id resolved weak name t s ≡ Ok new → Kin s new
  call_kin id resolved weak e = search rules

-- ---- a load
abbrev ValueFits : Option (ℕ × ℤ × ℤ) → Type 0
ValueFits None = Unit {0}
ValueFits (Some v) = (v.0 < 16) × SFits w32 v.1 × SFits w32 v.2

value_fits : (id address : Option ℕ) (weak : Bool) → ValueFits (load_value id address weak)
value_fits id address weak = search rules

module _ (T : ℕ → Type 0) (code new : List Slot) where
  call_changed : (t : Taken) (p : Result Slot Reason) → T (slot_index t) → ((s : Slot) → p ≡ Ok s → Kin (slot_at code (slot_index t)) s) → with_call code t p ≡ Ok new → Changed T code new
  call_changed t (Ok s) i h e =
      let k = h s refl in
      subst (Changed T code) (ok_same _ new e) (changed_set T code (slot_index t) s i k.code (λ g. k.fit (g (slot_index t))))
  call_changed t (Err r) i h e = absurd (err_not r new e)

  pair_changed : (i : ℕ) (v : ℕ × ℤ × ℤ) → ValueFits (Some v) → T i → T (i + 1) → Changed T code (with_pair code i v)
  pair_changed i v f t u = grind (arith, common_steps)

  load_changed : (name : Span) (t : Taken) (o : Option (ℕ × ℤ × ℤ)) → ValueFits o → T (slot_index t) → T (slot_index t + 1) → with_load code name t o ≡ Ok new → Changed T code new
  load_changed name t o f p q e = search (rules, err_not, ok_same, pair_changed)

  extern_changed : (x : Extern) (name : Span) (t : Taken) → T (slot_index t) → (is_load (slot_at code (slot_index t)) ≡ true → T (slot_index t + 1)) → patch_extern x name t code ≡ Ok new → Changed T code new
  extern_changed x name t p q =
      cond_both (is_call (slot_at code (slot_index t))) _ _ (λ z. z ≡ Ok new → Changed T code new)
      (λ c e. call_changed t _ p (λ s. call_kin name t (slot_at code (slot_index t)) s (eqb-true _ CALL c) x.id x.resolved x.weak) e)
      (λ _. cond_both (is_load (slot_at code (slot_index t))) _ _ (λ z. z ≡ Ok new → Changed T code new) (λ l e. load_changed name t _ (value_fits x.id x.address x.weak) p (q l) e) (λ _ e. absurd (err_not _ new e)))

-- the slots that a relocation of a name touches
abbrev Reach : List Slot → Taken → Option Span → ℕ → Type 0
Reach code t o i = (is_some o ≡ true) × ((i ≡ slot_index t) ⊎ ((is_load (slot_at code (slot_index t)) ≡ true) × (i ≡ slot_index t + 1)))

module _ (xs : List Extern) (code new : List Slot) (t : Taken) where
  found_changed : (n : Span) (o : Option (ℕ × Extern)) → patch_found o n t code ≡ Ok new → Changed (Reach code t (Some n)) code new
  found_changed n None e = absurd (err_not _ new e)
  found_changed n (Some k) e = extern_changed (Reach code t (Some n)) code new k.1 n t (refl, inl refl) (λ l. (refl, inr (l, refl))) e

  name_changed : (names : List ℕ) (o : Option Span) → patch_name xs names o t code ≡ Ok new → Changed (Reach code t o) code new
  name_changed names o e = search (rules, ok_same, changed_none, found_changed)

  symbol_changed : (names : List ℕ) (o : Option (ℕ × Symbol)) → patch_symbol xs names o t code ≡ Ok new → Changed (Reach code t (name_in o)) code new
  symbol_changed names o e = search (rules, err_not, name_changed)

  patch_changed : (ss : Symbols) → patch xs ss t code ≡ Ok new → Changed (Touches ss code t) code new
  patch_changed ss = search (rules, symbol_changed, err_not)

-- ---- all of them
-- the codes of the slots are those at the start
pub record Codes (old new : List Slot) : Type 0 where
  pub size : length new ≡ length old
  pub same : (i : ℕ) → (slot_at new i).code ≡ (slot_at old i).code

module _ (xs : List Extern) (ss : Symbols) where
  codes_more : (old code new : List Slot) (t : Taken) → Codes old code → patch xs ss t code ≡ Ok new → Codes old new
  codes_more old code new t k e = grind (arith, common_steps, patch_changed)

  touches_old : (old code : List Slot) (t : Taken) (i : ℕ) → Codes old code → Touches ss code t i → Touches ss old t i
  touches_old old code t i k h = search rules

  -- refused or not: the slots are as many, they fit, and one that no relocation touches is as before
  pub patched_size : (ts : List Taken) (code : List Slot) → length (patched xs ss ts code).0 ≡ length code
  patched_size [] code = refl
  patched_size (t ∷ ts) code =
      let by : (p : Result (List Slot) Reason) → patch xs ss t code ≡ p → length (go_on xs ss ts code p).0 ≡ length code =
      elim [ Ok new ↦ λ e. patched_size ts new ∙ (patch_changed xs code new t ss e).len | Err x ↦ λ e. refl ] in
      by (patch xs ss t code) refl

  pub patched_fits : (ts : List Taken) (code : List Slot) → EachFits code → EachFits (patched xs ss ts code).0
  patched_fits [] code f = f
  patched_fits (t ∷ ts) code f =
      let by : (p : Result (List Slot) Reason) → patch xs ss t code ≡ p → EachFits (go_on xs ss ts code p).0 =
      elim [ Ok new ↦ λ e. patched_fits ts new ((patch_changed xs code new t ss e).fit f) | Err x ↦ λ e. f ] in
      by (patch xs ss t code) refl

  pub leaves :
      (old : List Slot) (ts : List Taken) (code : List Slot) (i : ℕ)
      → Codes old code
      → ((t : Taken) → In t ts → Touches ss old t i → ⊥)
      → slot_at (patched xs ss ts code).0 i ≡ slot_at code i
  leaves old [] code i k none = refl
  leaves old (t ∷ ts) code i k none =
      let by : (p : Result (List Slot) Reason) → patch xs ss t code ≡ p → slot_at (go_on xs ss ts code p).0 i ≡ slot_at code i =
      elim [
        | Ok new ↦ λ e. leaves old ts new i (codes_more old code new t k e) (λ u j. none u (inr j)) ∙ (patch_changed xs code new t ss e).others i (λ x. none t (inl refl) (touches_old old code t i k x))
        | Err x ↦ λ e. refl
      ] in
      by (patch xs ss t code) refl

  -- one step of a granted relocation
  record Stepped (t : Taken) (ts : List Taken) (code : List Slot) : Type 0 where
    new : List Slot
    ok : patch xs ss t code ≡ Ok new
    left : (patched xs ss ts new).1 ≡ None
    end : patched xs ss (t ∷ ts) code ≡ patched xs ss ts new

  stepped : (t : Taken) (ts : List Taken) (code : List Slot) → (patched xs ss (t ∷ ts) code).1 ≡ None → Stepped t ts code
  stepped t ts code h = grind (arith, common_steps)

  -- one of them, with those before it made and those after it to come
  record Reached (old code : List Slot) (front : List Taken) (t : Taken) (back : List Taken) : Type 0 where
    here : List Slot
    same : Codes old here
    step : Stepped t back here
    end : patched xs ss (front ++ t ∷ back) code ≡ patched xs ss (t ∷ back) here

  reached : (old : List Slot) (front : List Taken) (t : Taken) (back : List Taken) (code : List Slot) → Codes old code → (patched xs ss (front ++ t ∷ back) code).1 ≡ None → Reached old code front t back
  reached old [] t back code k h = record { here = code; same = k; step = stepped t back code h; end = refl }
  reached old (u ∷ front) t back code k h =
      let s = stepped u (front ++ t ∷ back) code h in
      let r = reached old front t back s.new (codes_more old code s.new u k s.ok) s.left in
      record { here = r.here; same = r.same; step = r.step; end = s.end ∙ r.end }

-- ---- a load
symbol_named : (xs : List Extern) (names : List ℕ) (t : Taken) (code : List Slot) (n : Span) (o : Option (ℕ × Symbol)) → name_in o ≡ Some n → patch_symbol xs names o t code ≡ patch_found (extern_named (part names n) xs) n t code
symbol_named xs names t code n o e = search rules

module _ (xs : List Extern) (ss : Symbols) (t : Taken) (code new : List Slot) (n : Span) (a : ℕ) (k : ℕ × Extern) where
  load_new :
      patch xs ss t code ≡ Ok new
      → name_of ss t ≡ Some n
      → extern_named (part ss.names n) xs ≡ Some k
      → k.1.id ≡ None
      → k.1.address ≡ Some a
      → is_load (slot_at code (slot_index t)) ≡ true
      → (has_next t ≡ true) × (with_pair code (slot_index t) (0, low a, high a) ≡ new)
  load_new ok name row id address load = search rules

-- the two slots hold what a pair gets: the first with the source register 0
pub record Paired (new old : List Slot) (i a : ℕ) : Type 0 where
  pub first : slot_at new i ≡ with_imm (low a) (with_src 0 (slot_at old i))
  pub second : slot_at new (i + 1) ≡ with_imm (high a) (slot_at old (i + 1))

pair_holds : (code : List Slot) (i a : ℕ) → i + 1 < length code → Paired (with_pair code i (0, low a, high a)) code i a
pair_holds code i a h = search rules

-- a load of a name alone on its slots, in a granted relocation of functions that lie among the slots
pub loads_hold :
    (xs : List Extern) (p : Program) (code : List Slot) (n : List ℕ) (a : ℕ) (k : ℕ × Extern)
    → extern_named n xs ≡ Some k
    → k.1.id ≡ None
    → k.1.address ≡ Some a
    → follow 0 (function_slots p.functions) (length code) ≡ true
    → (relocated xs p code).1 ≡ None
    → (front : List Taken) (t : Taken) (back : List Taken)
    → taken p.functions p.relocations ≡ front ++ t ∷ back
    → LoadAlone n p.symbols code front t back
    → (here : List Slot) × Paired (relocated xs p code).0 here (slot_index t) a
loads_hold xs p code n a k row id address spans g front t back split alone =
    let ss = p.symbols in
    let h : (patched xs ss (front ++ t ∷ back) code).1 ≡ None = ap (λ ts. (patched xs ss ts code).1) (sym split) ∙ g in
    let r = reached xs ss code front t back code (record { size = refl; same = λ _. refl }) h in
    let s = r.step in
    let l = load_new xs ss t r.here s.new alone.place a k s.ok alone.symbol (ap (λ m. extern_named m xs) alone.name ∙ row) id address (ap (λ c. eqb c LOAD) (r.same.same (slot_index t)) ∙ alone.load) in
    let span = follow_in (length code) 0 (function_slots p.functions) spans _ (in_map (λ (f : Function). f.slots) p.functions t.function (taken_of p.functions p.relocations t (subst (In t) (sym split) (in_right front (t ∷ back) t (inl refl))))) in
    let room : slot_index t + 1 < length r.here = subst (λ m. slot_index t + 1 < m) (sym r.same.size) (let x = ltb-true _ _ l.0 in omega arith) in
    let b = pair_holds r.here (slot_index t) a room in
    let codes = codes_more xs ss code r.here s.new t r.same s.ok in
    let e : (relocated xs p code).0 ≡ (patched xs ss back s.new).0 = ap (λ ts. (patched xs ss ts code).0) split ∙ ap (λ x. x.0) (r.end ∙ s.end) in (
      r.here,
      record {
        first = ap (λ x. slot_at x (slot_index t)) e
            ∙ leaves xs ss code back s.new (slot_index t) codes (λ u i. alone.first u (in_right front back u i))
            ∙ ap (λ x. slot_at x (slot_index t)) (sym l.1)
            ∙ b.first;
        second = ap (λ x. slot_at x (slot_index t + 1)) e
            ∙ leaves xs ss code back s.new (slot_index t + 1) codes (λ u i. alone.second u (in_right front back u i))
            ∙ ap (λ x. slot_at x (slot_index t + 1)) (sym l.1)
            ∙ b.second;
      },
    )
