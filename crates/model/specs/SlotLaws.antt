-- What follows from the definitions of slots and of BTF numbers. Assumes nothing.
use Rattle.std.specs.Prelude.{◌≡◌, ℕ, ◌%◌, ◌^◌, ◌<◌, true, List, pos, ◌+ℤ◌, FitsSigned}
use Rattle.std.proofs.Common.{to_z}
use Rattle.std.specs.List.{AllByRecursion}
use Rattle.std.specs.Int.{int_wrap, w16, w32}
use Rattle.model.specs.Added.{int_row, placeholder_row}
use Rattle.model.specs.BtfNumbers.{info_vlen, info_kind, info_flag, int_bits, int_offset, int_encoding, BTF_INT_SIGNED, with_linkage}
use Rattle.model.specs.Kinds.{kind_number}
use Rattle.model.specs.Relocate.{kernel_call, poison_call, POISON_CALL_KFUNC_BASE}
use Rattle.model.specs.Slots.{slots, slots_bytes, whole_slots, dst_reg, src_reg, with_dst, with_src, with_imm, signed, unsigned, low, high, loads, calls, LOAD, CALL, BPF_PSEUDO_BTF_ID}
use Rattle.model.specs.Slots.Loaded.{immediate, variable}
use Rattle.model.specs.Slots.Called.{kernel_function}
use Rattle.model.specs.declared.rows.Slot.{Slot}

-- a slot as eight bytes can hold it
pub record FitsSlot (s : Slot) : Type 0 where
  pub code : s.code < 256
  pub regs : s.regs < 256
  pub off : FitsSigned w16 s.off
  pub imm : FitsSigned w32 s.imm

-- slots are written as bytes and read back; whole slots of bytes are read and written back
pub record SlotsAreBytes : Type 0 where
  pub read_back : (ss : List Slot) → AllByRecursion FitsSlot ss → slots (slots_bytes ss) ≡ ss
  pub written_back : (bs : List ℕ) → AllByRecursion (λ b. b < 256) bs → whole_slots bs ≡ true → slots_bytes (slots bs) ≡ bs
  pub fit : (bs : List ℕ) → AllByRecursion (λ b. b < 256) bs → AllByRecursion FitsSlot (slots bs)
  pub bytes : (ss : List Slot) → AllByRecursion FitsSlot ss → AllByRecursion (λ b. b < 256) (slots_bytes ss)

-- setting one register keeps the other
pub record RegistersAreApart : Type 0 where
  pub source : (s : Slot) (r : ℕ) → src_reg (with_src r s) ≡ r
  pub source_keeps : (s : Slot) (r : ℕ) → dst_reg (with_src r s) ≡ dst_reg s
  pub destination : (s : Slot) (r : ℕ) → r < 16 → dst_reg (with_dst r s) ≡ r
  pub destination_keeps : (s : Slot) (r : ℕ) → r < 16 → src_reg (with_dst r s) ≡ src_reg s

-- the opcodes of a 64-bit load and of a call
abbrev pub Opcodes : Type 0
Opcodes = (LOAD ≡ 0x18) × (CALL ≡ 0x85)

-- 32 bits go in bit for bit
abbrev pub BitsAreKept : Type 0
BitsAreKept = (n : ℕ) → FitsSigned w32 (signed n) × (unsigned (signed n) ≡ n % 2 ^ 32)

-- for every address, the pair that a load of it gets loads that address; an id goes in as the id of a variable
pub record LoadsHoldTheirValue : Type 0 where
  pub address : (a : ℕ) (s next : Slot) → a < 2 ^ 64 → loads (with_imm (low a) (with_src 0 s)) (with_imm (high a) next) ≡ immediate a
  pub id : (id : ℕ) (s next : Slot) → id < 2 ^ 32 → loads (with_imm (signed id) (with_src BPF_PSEUDO_BTF_ID s)) (with_imm (pos 0) next) ≡ variable id

-- a call with an id calls the kernel function of that id, and keeps the destination register
abbrev pub CallsHoldTheirId : Type 0
CallsHoldTheirId = (id : ℕ) (s : Slot) → id < 2 ^ 32 → (calls (kernel_call id s) ≡ kernel_function id) × (dst_reg (kernel_call id s) ≡ dst_reg s)

-- the immediate of a weak call is the sum of two signed 32-bit numbers, wrapped
abbrev pub PoisonWraps : Type 0
PoisonWraps = (symbol : ℕ) → symbol < 2 ^ 32 → (poison_call symbol).imm ≡ int_wrap w32 (pos POISON_CALL_KFUNC_BASE +ℤ to_z w32 symbol)

-- the rows that we make mean what the kernel's BTF documentation says, and a new linkage changes no other bits
pub record NewRowsMean : Type 0 where
  pub int_kind : (name : ℕ) → info_kind (int_row name).info ≡ kind_number (int_row name).kind
  pub int_parts : (name : ℕ) → info_vlen (int_row name).info ≡ 0
  pub int_flag : (name : ℕ) → info_flag (int_row name).info ≡ 0
  pub signed_int : (name : ℕ) → int_encoding (int_row name).«data» ≡ BTF_INT_SIGNED
  pub from_first_bit : (name : ℕ) → int_offset (int_row name).«data» ≡ 0
  pub four_bytes : (name : ℕ) → int_bits (int_row name).«data» ≡ 32
  pub var_kind : (int name : ℕ) → info_kind (placeholder_row int name).info ≡ kind_number (placeholder_row int name).kind
  pub var_parts : (int name : ℕ) → info_vlen (placeholder_row int name).info ≡ 0
  pub var_flag : (int name : ℕ) → info_flag (placeholder_row int name).info ≡ 0
  pub linkage : (l info : ℕ) → l < 2 ^ 16 → info_vlen (with_linkage l info) ≡ l
  pub linkage_kind : (l info : ℕ) → l < 2 ^ 16 → info_kind (with_linkage l info) ≡ info_kind info
  pub linkage_flag : (l info : ℕ) → l < 2 ^ 16 → info_flag (with_linkage l info) ≡ info_flag info
