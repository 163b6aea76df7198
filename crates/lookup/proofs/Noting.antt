-- What is written into a map of names. Assumes nothing.
use Rattle.std.proofs.Common.{◌≡◌, ℕ, ◌≤◌, Bool, cond, List, [], map, length, Some, None, Option, Bor, sym, ap, subst, ◌∙◌, arith}
use Rattle.std.proofs.lemmas.Bool.{cond-true, cond-false, false_from_ne_true}
use Rattle.std.proofs.lemmas.Map.Made.{lookup-map_values, keys_of-map_values}
use Rattle.std.proofs.lemmas.Map.Text.{btree_map_updates_str, hash_map_updates_str}
use Rattle.std.proofs.lemmas.Slice.Eq.{bytes_eq-Decides}
use Rattle.std.specs.BTreeMap.{keys, is_at, UpdatesBy}
use Rattle.std.specs.HashMap.{HashMap}
use Rattle.std.specs.HashMap as hash
use Rattle.std.specs.Str.{bytes_eq}
use Rattle.std.specs.Cmp.Lexicographic.{slice_cmp}
use Rattle.std.specs.Map.{lookup, keys_of}
use Rattle.std.specs.Option.{option_map, IfSome}
use Rattle.std.specs.Ordering.{nat_cmp}
use Rattle.kallsyms.specs.Address.{address}
use Rattle.kallsyms.specs.Fields.{fields, field}
use Rattle.lookup.specs.After.{after}
use Rattle.lookup.specs.LookedUp.{Sightings, sighting_of}
use Rattle.lookup.specs.Noted.{Notes}
use Rattle.lookup.specs.Hashed.{sighting_in, HashHolds, HashNotes}
use Rattle.lookup.specs.Says.{Lists, Says}
use Rattle.lookup.specs.declared.sighting.Sighting.{Sighting}
use Rattle.lookup.specs.declared.sighting.Sighting.TheVariants.{Unlisted}

-- what is said of each name once the line's number and address are written after what was said of its name
module _ (n : ℕ) (l name : List ℕ) (s : Sighting) (old new : List ℕ → Option Sighting) (is : name ≡ (field 2 l).bytes)
    (now : (q : List ℕ) → new q ≡ cond (bytes_eq name q) (Some (after n (address (field 0 l).bytes) s)) (old q)) where
  listed : old name ≡ Some s → (q : List ℕ) → Lists q l → new q ≡ option_map (after n (address (field 0 l).bytes)) (old q)
  listed was q h =
      let e : name ≡ q = is ∙ h.1 in
      now q ∙ cond-true _ _ _ ((bytes_eq-Decides name q).1 e) ∙ ap (option_map (after n (address (field 0 l).bytes))) (sym was ∙ ap old e)

  others : 3 ≤ length (fields 0 l) → (q : List ℕ) → ¬ Lists q l → new q ≡ old q
  others three q unlike = now q ∙ cond-false _ _ _ (false_from_ne_true _ (λ t. unlike (three, sym is ∙ (bytes_eq-Decides name q).0 t)))

-- the line's number and address, written after what was said of its name, are noted
pub notes_from_update : (n : ℕ) (l name : List ℕ) (s : Sighting) (old new : Sightings)
    → 3 ≤ length (fields 0 l)
    → name ≡ (field 2 l).bytes
    → sighting_of old name ≡ Some s
    → keys new ≡ keys old
    → UpdatesBy (λ x y. slice_cmp nat_cmp x.now y.now) (λ k. slice_cmp nat_cmp name k.now) old new (Some (after n (address (field 0 l).bytes) s))
    → Notes n l old new
notes_from_update n l name s old new three is was same updates =
    let now = btree_map_updates_str name old new (Some (after n (address (field 0 l).bytes) s)) updates in
    record {
      names = same;
      listed = listed n l name s (sighting_of old) (sighting_of new) is now was;
      others = others n l name s (sighting_of old) (sighting_of new) is now three;
    }

-- the same of a hash map
pub hash_notes_from_update : {S : Type 0} (n : ℕ) (l name : List ℕ) (s : Sighting) (old new : HashMap (Bor (List ℕ)) Sighting S)
    → 3 ≤ length (fields 0 l)
    → name ≡ (field 2 l).bytes
    → sighting_in old name ≡ Some s
    → hash.keys new ≡ hash.keys old
    → hash.UpdatesBy (λ x y. bytes_eq x.now y.now) (λ k. bytes_eq name k.now) old new (Some (after n (address (field 0 l).bytes) s))
    → HashNotes n l old new
hash_notes_from_update n l name s old new three is was same updates =
    let now = hash_map_updates_str name old new (Some (after n (address (field 0 l).bytes) s)) updates in
    record {
      names = same;
      listed = listed n l name s (sighting_in old) (sighting_in new) is now was;
      others = others n l name s (sighting_in old) (sighting_in new) is now three;
    }

unlisted : (name : List ℕ) (o : Option Sighting) → IfSome (option_map (λ _. Unlisted) o) (Says [] name)
unlisted name None = tt
unlisted name (Some s) = λ j a lt g. absurd (omega arith)

-- where each value was made so, the names stay, and no lines say so of each
pub all_unlisted : (old new : Sightings) → new.entries ≡ map (λ e. (e.0, Unlisted)) old.entries → (keys new ≡ keys old) × ((name : List ℕ) → IfSome (sighting_of new name) (Says [] name))
all_unlisted old new e =
    let says : (name : List ℕ) → IfSome (sighting_of new name) (Says [] name) =
    λ name.
    let test : Bor (List ℕ) → Bool = is_at (λ k. slice_cmp nat_cmp name k.now) in
    subst (λ o. IfSome o (Says [] name)) (sym (ap (lookup test) e ∙ lookup-map_values (λ _. Unlisted) test old.entries)) (unlisted name (lookup test old.entries)) in
    (ap keys_of e ∙ keys_of-map_values (λ _. Unlisted) old.entries, says)

-- the same of a hash map
pub all_unlisted_in : {S : Type 0} (old new : HashMap (Bor (List ℕ)) Sighting S) → new.entries ≡ map (λ e. (e.0, Unlisted)) old.entries → (hash.keys new ≡ hash.keys old) × HashHolds [] new
all_unlisted_in old new e =
    let says : HashHolds [] new =
    λ name.
    let test : Bor (List ℕ) → Bool = λ k. bytes_eq name k.now in
    subst (λ o. IfSome o (Says [] name)) (sym (ap (lookup test) e ∙ lookup-map_values (λ _. Unlisted) test old.entries)) (unlisted name (lookup test old.entries)) in
    (ap keys_of e ∙ keys_of-map_values (λ _. Unlisted) old.entries, says)
