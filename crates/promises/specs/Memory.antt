-- W-206 of document 02: "10, 20 and 21 read the new meaning, as demand 2 does." Each of the three by itself, said of bytes of memory and
-- not of segments that touch. Each statement stands alone and holds of every sound capture; proofs/Memory.antt has a theorem for it.
use Rattle.std.specs.Prelude.{ℕ, ◌+◌, ◌<◌, List, ◌⊎◌, ◌≡◌, Ok, Err}
use Rattle.words.specs.Refusals.{refused}
use Rattle.capture.specs.Fields.{rsdp_address}
use Rattle.capture.specs.Presence.{rsdp_size, rsdp}
use Rattle.capture.specs.Memory.{Stands, EveryByte, Missing}
use Rattle.tables.specs.Table.{header_size, address_at, table_length, table_at}
use Rattle.tables.specs.declared.Table.{Table}

-- some byte of a stretch lies in no segment
abbrev pub Lacks : List ℕ → ℕ → ℕ → Type 0
Lacks capture address size = (k : ℕ) × (k < size) × Missing capture (address + k)

-- 10, "RSDP not present": exactly if it lacks a byte
abbrev pub TenExactly : List ℕ → Type 0
TenExactly capture =
    (rsdp capture ≡ Err (refused 10 10) → Lacks capture (rsdp_address capture) rsdp_size)
    × (Lacks capture (rsdp_address capture) rsdp_size → rsdp capture ≡ Err (refused 10 10))

-- 20, "36-byte header not present", of the table that an address field names: exactly if the header lacks a byte
abbrev pub TwentyExactly : List ℕ → Type 0
TwentyExactly capture =
    (field : ℕ)
    → (table_at capture field ≡ Err (refused 20 field) → Lacks capture (address_at capture field) header_size)
    × (Lacks capture (address_at capture field) header_size → table_at capture field ≡ Err (refused 20 field))

-- its header is there, at a place, but by its length the table is "under 36 or not all present": it lacks a byte
pub record CutShort (capture : List ℕ) (field place : ℕ) : Type 0 where
  pub header : EveryByte capture (address_at capture field) header_size
  pub there : Stands capture (address_at capture field) place
  pub short : (table_length capture place < header_size) ⊎ Lacks capture (address_at capture field) (table_length capture place)

-- 21: exactly if it is so
abbrev pub TwentyOneExactly : List ℕ → Type 0
TwentyOneExactly capture =
    (field place : ℕ)
    → (table_at capture field ≡ Err (refused 21 place) → CutShort capture field place)
    × (CutShort capture field place → table_at capture field ≡ Err (refused 21 place))

-- byte k of a table that is taken is the byte of memory k behind the address that names it
abbrev pub TablesAreMemory : List ℕ → Type 0
TablesAreMemory capture =
    (field : ℕ) (table : Table) → table_at capture field ≡ Ok table
    → (k : ℕ) → k < table.length → Stands capture (address_at capture field + k) (table.place + k)
