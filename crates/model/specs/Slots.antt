-- Instruction slots, from RFC 9669, little-endian. Assumes nothing.
use Rattle.std.specs.Prelude.{ℕ, zero, suc, ◌+◌, ◌*◌, ◌/◌, ◌%◌, ◌^◌, Bool, cond, List, [], ◌∷◌, ◌++◌, length, take, drop, ℤ, ◌==◌, slice_index}
use Rattle.std.specs.Int.{w16, w32}
use Rattle.std.proofs.Common.{to_z, of_z}
use Rattle.model.specs.declared.rows.Slot.{Slot}

-- ---- the layout: opcode, registers, offset of two bytes, immediate of four; both are signed
abbrev pub slot_of : List ℕ → Slot
slot_of bs =
    record {
      code = slice_index bs 0;
      regs = slice_index bs 1;
      off = to_z w16 (slice_index bs 2 + slice_index bs 3 * 256);
      imm = to_z w32 (slice_index bs 4 + slice_index bs 5 * 256 + slice_index bs 6 * 65536 + slice_index bs 7 * 16777216);
    }

abbrev pub slot_bytes : Slot → List ℕ
slot_bytes s =
    let off = of_z w16 s.off in
    let imm = of_z w32 s.imm in
    s.code ∷ s.regs ∷ off % 256 ∷ off / 256 ∷ imm % 256 ∷ imm / 256 % 256 ∷ imm / 65536 % 256 ∷ imm / 16777216 ∷ []

-- the first n slots of a list of bytes
abbrev pub first_slots : ℕ → List ℕ → List Slot
first_slots zero bs = []
first_slots (suc n) bs = slot_of (take 8 bs) ∷ first_slots n (drop 8 bs)

-- each eight bytes are a slot
abbrev pub slots : List ℕ → List Slot
slots bs = first_slots (length bs / 8) bs

abbrev pub whole_slots : List ℕ → Bool
whole_slots bs = length bs % 8 == 0

abbrev pub slots_bytes : List Slot → List ℕ
slots_bytes [] = []
slots_bytes (s ∷ ss) = slot_bytes s ++ slots_bytes ss

-- ---- registers: the destination in the low four bits, the source in the high four
abbrev pub dst_reg : Slot → ℕ
dst_reg s = s.regs % 16

abbrev pub src_reg : Slot → ℕ
src_reg s = s.regs / 16

abbrev pub with_regs : ℕ → Slot → Slot
with_regs regs s = record s { regs = regs }

-- one register set, the other kept
abbrev pub with_dst : ℕ → Slot → Slot
with_dst r s = with_regs (src_reg s * 16 + r) s

abbrev pub with_src : ℕ → Slot → Slot
with_src r s = with_regs (r * 16 + dst_reg s) s

abbrev pub with_imm : ℤ → Slot → Slot
with_imm imm s = record s { imm = imm }

-- ---- opcodes
-- a class, in the low three bits
abbrev pub BPF_LD : ℕ
BPF_LD = 0x00

abbrev pub BPF_JMP : ℕ
BPF_JMP = 0x05

-- of a load: a size, in the two bits above the class, and a mode, in the three bits above that
abbrev pub BPF_DW : ℕ
BPF_DW = 0x18

abbrev pub BPF_IMM : ℕ
BPF_IMM = 0x00

-- of a jump: a source, in the bit above the class, and an operation, in the four bits above that
abbrev pub BPF_K : ℕ
BPF_K = 0x00

abbrev pub BPF_CALL : ℕ
BPF_CALL = 0x80

-- the load of a 64-bit immediate, which takes two slots, and the call
abbrev pub LOAD : ℕ
LOAD = BPF_LD + BPF_DW + BPF_IMM

abbrev pub CALL : ℕ
CALL = BPF_JMP + BPF_K + BPF_CALL

-- ---- 32 bits as a signed number and back
abbrev pub signed : ℕ → ℤ
signed n = to_z w32 (n % 2 ^ 32)

abbrev pub unsigned : ℤ → ℕ
unsigned z = of_z w32 z

-- the low and the high half of 64 bits
abbrev pub low : ℕ → ℤ
low a = signed a

abbrev pub high : ℕ → ℤ
high a = signed (a / 2 ^ 32)

-- ---- what the slots mean
-- the 64-bit immediate of a load: the next slot's immediate is its high half
abbrev pub imm64 : Slot → Slot → ℕ
imm64 s next = unsigned next.imm * 2 ^ 32 + unsigned s.imm

-- the source registers of a load: 0 loads the 64-bit immediate, 3 the address of the variable of an id
abbrev pub BPF_PSEUDO_BTF_ID : ℕ
BPF_PSEUDO_BTF_ID = 3

pub data Loaded : Type 0 where
  immediate : ℕ → Loaded
  variable : ℕ → Loaded
  other_load : ℕ → Loaded

abbrev pub loads : Slot → Slot → Loaded
loads s next =
    cond (src_reg s == 0) (immediate (imm64 s next)) (cond (src_reg s == BPF_PSEUDO_BTF_ID) (variable (unsigned s.imm)) (other_load (src_reg s)))

-- the source registers of a call: 0 calls a helper by its number, 1 a function of the program, 2 a kernel function by its id
abbrev pub BPF_PSEUDO_KFUNC_CALL : ℕ
BPF_PSEUDO_KFUNC_CALL = 2

pub data Called : Type 0 where
  helper : ℤ → Called
  local : ℤ → Called
  kernel_function : ℕ → Called
  other_call : ℕ → Called

abbrev pub calls : Slot → Called
calls s =
    cond (src_reg s == 0) (helper s.imm)
    (cond (src_reg s == 1) (local s.imm) (cond (src_reg s == BPF_PSEUDO_KFUNC_CALL) (kernel_function (unsigned s.imm)) (other_call (src_reg s))))
