-- The laws of slots.
use Rattle.std.proofs.lemmas.Grind.{common_steps}
use Rattle.std.proofs.Common.{rules, ◌≡◌, ℕ, zero, suc, ◌*◌, ◌/◌, ◌%◌, ◌^◌, ◌<◌, List, [], ◌∷◌, ◌++◌, length, take, drop, sym, refl, ap, ◌∙◌, append-nil, arith, length-drop, take-append-drop, length-take, w16, w32, of_z}
use mir.Facts.{Fits-of_z}
use Rattle.std.specs.List.{AllByRecursion}
use Rattle.std.proofs.ByRecursion.{All-take, All-drop}
use Rattle.std.proofs.lemmas.List.{drop_all}
use Rattle.std.proofs.lemmas.Int.{wrapping_add-bits}
use Rattle.std.proofs.lemmas.Bool.{eqb-true}
use Rattle.model.specs.SlotLaws.{FitsSlot, SlotsAreBytes, PoisonWraps}
use Rattle.model.specs.Slots.{slot_of, slot_bytes, first_slots, slots, slots_bytes}
use Rattle.model.specs.declared.rows.Slot.{Slot}

-- ---- how many
first_slots_length : (n : ℕ) (bs : List ℕ) → length (first_slots n bs) ≡ n
first_slots_length zero bs = refl
first_slots_length (suc n) bs = ap suc (first_slots_length n (drop 8 bs))

pub slots_length : (bs : List ℕ) → length (slots bs) ≡ length bs / 8
slots_length bs = first_slots_length (length bs / 8) bs

pub slots_bytes_length : (ss : List Slot) → length (slots_bytes ss) ≡ length ss * 8
slots_bytes_length [] = refl
slots_bytes_length (s ∷ ss) = let long = slots_bytes_length ss in omega arith

-- ---- a slot is written and read back
slot_read : (s : Slot) → FitsSlot s → slot_of (slot_bytes s) ≡ s
slot_read s f = search rules

-- slots that are written before other bytes are read back before the slots of those
pub slots_after : (ss : List Slot) (bs : List ℕ) → AllByRecursion FitsSlot ss → slots (slots_bytes ss ++ bs) ≡ ss ++ slots bs
slots_after [] bs h = refl
slots_after (s ∷ ss) bs h =
    let rest = slots_bytes ss ++ bs in
    let more : length (slot_bytes s ++ rest) / 8 ≡ suc (length rest / 8) = omega arith in
    ap (λ n. first_slots n (slot_bytes s ++ rest)) more ∙ (λ i. slot_read s h.0 i ∷ slots_after ss bs h.1 i)

pub slots_read_back : (ss : List Slot) → AllByRecursion FitsSlot ss → slots (slots_bytes ss) ≡ ss
slots_read_back ss h = ap slots (sym (append-nil (slots_bytes ss))) ∙ slots_after ss [] h ∙ append-nil ss

-- ---- eight bytes are read and written back
slot_written : (xs : List ℕ) → length xs ≡ 8 → AllByRecursion (λ b. b < 256) xs → slot_bytes (slot_of xs) ≡ xs
slot_written xs e h = grind (arith, common_steps)

written_back : (n : ℕ) (bs : List ℕ) → AllByRecursion (λ b. b < 256) bs → length bs ≡ n * 8 → slots_bytes (first_slots n bs) ≡ bs
written_back zero bs h e = sym (drop_all 0 bs (omega arith))
written_back (suc n) bs h e =
    let front : length (take 8 bs) ≡ 8 = omega (arith, length-take 8 bs) in
    let rest : length (drop 8 bs) ≡ n * 8 = omega (arith, length-drop 8 bs) in
    (λ i. slot_written (take 8 bs) front (All-take _ 8 bs h) i ++ written_back n (drop 8 bs) (All-drop _ 8 bs h) rest i) ∙ take-append-drop 8 bs

slot_fits : (xs : List ℕ) → AllByRecursion (λ b. b < 256) xs → FitsSlot (slot_of xs)
slot_fits xs h = grind (arith, common_steps)

fit : (n : ℕ) (bs : List ℕ) → AllByRecursion (λ b. b < 256) bs → AllByRecursion FitsSlot (first_slots n bs)
fit zero bs h = tt
fit (suc n) bs h = (slot_fits (take 8 bs) (All-take _ 8 bs h), fit n (drop 8 bs) (All-drop _ 8 bs h))

bytes : (ss : List Slot) → AllByRecursion FitsSlot ss → AllByRecursion (λ b. b < 256) (slots_bytes ss)
bytes [] h = tt
bytes (s ∷ ss) (f, h) =
    let off : of_z w16 s.off < 2 ^ 16 = (Fits-of_z f.off).fits in
    let imm : of_z w32 s.imm < 2 ^ 32 = (Fits-of_z f.imm).fits in
    (f.code, (f.regs, (omega arith, (omega arith, (omega arith, (omega arith, (omega arith, (omega arith, bytes ss h))))))))

pub slots_are_bytes : SlotsAreBytes
slots_are_bytes =
    record {
      read_back = slots_read_back;
      written_back = λ bs h w. let whole = eqb-true (length bs % 8) 0 w in written_back (length bs / 8) bs h (omega arith);
      fit = λ bs h. fit (length bs / 8) bs h;
      bytes = bytes;
    }

-- ---- what slots mean
pub poison_wraps : PoisonWraps
poison_wraps symbol h = wrapping_add-bits w32 2002000000 symbol (omega arith) h
