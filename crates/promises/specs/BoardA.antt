-- Document 01, "Board A and its neighbours", byte by byte: what boards/A.cap holds, three neighbours with their sums made good, and board
-- A moved. boards/cases.py writes this file, and says whether it is what boards/A.cap holds.
use Rattle.std.specs.Prelude.{ℕ, List, [], ◌∷◌, ◌++◌, set}

-- the container: header and one descriptor
abbrev container : List ℕ
container = 84 ∷ 66 ∷ 67 ∷ 1 ∷ 0 ∷ 1 ∷ 26 ∷ 2 ∷ 0 ∷ 0 ∷ 0 ∷ 0 ∷ 0 ∷ 144 ∷ 0 ∷ 0 ∷ 0 ∷ 0 ∷ 0 ∷ 0 ∷ 0 ∷ 144 ∷ 0 ∷ 0 ∷ 0 ∷ 0 ∷ 252 ∷ 1 ∷ 0 ∷ 0 ∷ []

-- RSDP
abbrev rsdp_bytes : List ℕ
rsdp_bytes = 82 ∷ 83 ∷ 68 ∷ 32 ∷ 80 ∷ 84 ∷ 82 ∷ 32 ∷ 13 ∷ 76 ∷ 79 ∷ 79 ∷ 78 ∷ 71 ∷ 83 ∷ 2 ∷ 0 ∷ 0 ∷ 0 ∷ 0 ∷ 36 ∷ 0 ∷ 0 ∷ 0 ∷ 36 ∷ 0 ∷ 0 ∷ 144 ∷ 0 ∷ 0 ∷ 0 ∷ 0 ∷ 40 ∷ 0 ∷ 0 ∷ 0 ∷ []

-- XSDT
abbrev xsdt_bytes : List ℕ
xsdt_bytes = 88 ∷ 83 ∷ 68 ∷ 84 ∷ 52 ∷ 0 ∷ 0 ∷ 0 ∷ 1 ∷ 197 ∷ 76 ∷ 79 ∷ 79 ∷ 78 ∷ 71 ∷ 83 ∷ 76 ∷ 79 ∷ 79 ∷ 78 ∷ 71 ∷ 83 ∷ 79 ∷ 78 ∷ 1 ∷ 0 ∷ 0 ∷ 0 ∷ 0 ∷ 0 ∷ 0 ∷ 0 ∷ 0 ∷ 0 ∷ 0 ∷ 0 ∷ 88 ∷ 0 ∷ 0 ∷ 144 ∷ 0 ∷ 0 ∷ 0 ∷ 0 ∷ 8 ∷ 1 ∷ 0 ∷ 144 ∷ 0 ∷ 0 ∷ 0 ∷ 0 ∷ []

-- MADT: header, address and flags
abbrev madt_head : List ℕ
madt_head = 65 ∷ 80 ∷ 73 ∷ 67 ∷ 176 ∷ 0 ∷ 0 ∷ 0 ∷ 1 ∷ 42 ∷ 76 ∷ 79 ∷ 79 ∷ 78 ∷ 71 ∷ 83 ∷ 76 ∷ 79 ∷ 79 ∷ 78 ∷ 71 ∷ 83 ∷ 79 ∷ 78 ∷ 1 ∷ 0 ∷ 0 ∷ 0 ∷ 0 ∷ 0 ∷ 0 ∷ 0 ∷ 0 ∷ 0 ∷ 0 ∷ 0 ∷ 0 ∷ 20 ∷ 224 ∷ 31 ∷ 0 ∷ 0 ∷ 0 ∷ 0 ∷ []

-- CORE 0, 0, enabled
abbrev core0 : List ℕ
core0 = 17 ∷ 15 ∷ 1 ∷ 0 ∷ 0 ∷ 0 ∷ 0 ∷ 0 ∷ 0 ∷ 0 ∷ 0 ∷ 1 ∷ 0 ∷ 0 ∷ 0 ∷ []

-- CORE 1, 1, enabled
abbrev core1 : List ℕ
core1 = 17 ∷ 15 ∷ 1 ∷ 1 ∷ 0 ∷ 0 ∷ 0 ∷ 1 ∷ 0 ∷ 0 ∷ 0 ∷ 1 ∷ 0 ∷ 0 ∷ 0 ∷ []

-- CORE 2, 2, disabled
abbrev core2 : List ℕ
core2 = 17 ∷ 15 ∷ 1 ∷ 2 ∷ 0 ∷ 0 ∷ 0 ∷ 2 ∷ 0 ∷ 0 ∷ 0 ∷ 0 ∷ 0 ∷ 0 ∷ 0 ∷ []

-- LIO, bytes 2 and 0, masks 0x00FFFFFF and 0
abbrev lio_bytes : List ℕ
lio_bytes = 18 ∷ 23 ∷ 1 ∷ 0 ∷ 20 ∷ 224 ∷ 31 ∷ 0 ∷ 0 ∷ 0 ∷ 0 ∷ 128 ∷ 0 ∷ 2 ∷ 0 ∷ 255 ∷ 255 ∷ 255 ∷ 0 ∷ 0 ∷ 0 ∷ 0 ∷ 0 ∷ []

-- EIO, cascade 3, node 0, map 1
abbrev eio_bytes : List ℕ
eio_bytes = 20 ∷ 13 ∷ 1 ∷ 3 ∷ 0 ∷ 1 ∷ 0 ∷ 0 ∷ 0 ∷ 0 ∷ 0 ∷ 0 ∷ 0 ∷ []

-- MSI, start 64, count 192
abbrev msi_bytes : List ℕ
msi_bytes = 21 ∷ 19 ∷ 1 ∷ 0 ∷ 0 ∷ 240 ∷ 47 ∷ 0 ∷ 0 ∷ 0 ∷ 0 ∷ 64 ∷ 0 ∷ 0 ∷ 0 ∷ 192 ∷ 0 ∷ 0 ∷ 0 ∷ []

-- BIO, hardware ID 0, base 64
abbrev bio_bytes : List ℕ
bio_bytes = 22 ∷ 17 ∷ 1 ∷ 0 ∷ 0 ∷ 0 ∷ 16 ∷ 0 ∷ 14 ∷ 0 ∷ 0 ∷ 0 ∷ 16 ∷ 0 ∷ 0 ∷ 64 ∷ 0 ∷ []

-- LPC, cascade 19
abbrev lpc_bytes : List ℕ
lpc_bytes = 23 ∷ 15 ∷ 1 ∷ 0 ∷ 32 ∷ 0 ∷ 16 ∷ 0 ∷ 14 ∷ 0 ∷ 0 ∷ 0 ∷ 16 ∷ 19 ∷ 0 ∷ []

-- FADT, SCI 75
abbrev fadt_bytes : List ℕ
fadt_bytes = 70 ∷ 65 ∷ 67 ∷ 80 ∷ 244 ∷ 0 ∷ 0 ∷ 0 ∷ 4 ∷ 97 ∷ 76 ∷ 79 ∷ 79 ∷ 78 ∷ 71 ∷ 83 ∷ 76 ∷ 79 ∷ 79 ∷ 78 ∷ 71 ∷ 83 ∷ 79 ∷ 78 ∷ 1 ∷ 0 ∷ 0 ∷ 0 ∷ 0 ∷ 0 ∷ 0 ∷ 0 ∷ 0 ∷ 0 ∷ 0 ∷ 0 ∷ 0 ∷ 0 ∷ 0 ∷ 0 ∷ 0 ∷ 0 ∷ 0 ∷ 0 ∷ 0 ∷ 0 ∷ 75 ∷ 0 ∷ 0 ∷ 0 ∷ 0 ∷ 0 ∷ 0 ∷ 0 ∷ 0 ∷ 0 ∷ 0 ∷ 0 ∷ 0 ∷ 0 ∷ 0 ∷ 0 ∷ 0 ∷ 0 ∷ 0 ∷ 0 ∷ 0 ∷ 0 ∷ 0 ∷ 0 ∷ 0 ∷ 0 ∷ 0 ∷ 0 ∷ 0 ∷ 0 ∷ 0 ∷ 0 ∷ 0 ∷ 0 ∷ 0 ∷ 0 ∷ 0 ∷ 0 ∷ 0 ∷ 0 ∷ 0 ∷ 0 ∷ 0 ∷ 0 ∷ 0 ∷ 0 ∷ 0 ∷ 0 ∷ 0 ∷ 0 ∷ 0 ∷ 0 ∷ 0 ∷ 0 ∷ 0 ∷ 0 ∷ 0 ∷ 0 ∷ 0 ∷ 0 ∷ 0 ∷ 0 ∷ 0 ∷ 0 ∷ 0 ∷ 0 ∷ 0 ∷ 0 ∷ 0 ∷ 0 ∷ 0 ∷ 0 ∷ 0 ∷ 0 ∷ 0 ∷ 0 ∷ 0 ∷ 0 ∷ 0 ∷ 0 ∷ 0 ∷ 0 ∷ 0 ∷ 0 ∷ 0 ∷ 0 ∷ 0 ∷ 0 ∷ 0 ∷ 0 ∷ 0 ∷ 0 ∷ 0 ∷ 0 ∷ 0 ∷ 0 ∷ 0 ∷ 0 ∷ 0 ∷ 0 ∷ 0 ∷ 0 ∷ 0 ∷ 0 ∷ 0 ∷ 0 ∷ 0 ∷ 0 ∷ 0 ∷ 0 ∷ 0 ∷ 0 ∷ 0 ∷ 0 ∷ 0 ∷ 0 ∷ 0 ∷ 0 ∷ 0 ∷ 0 ∷ 0 ∷ 0 ∷ 0 ∷ 0 ∷ 0 ∷ 0 ∷ 0 ∷ 0 ∷ 0 ∷ 0 ∷ 0 ∷ 0 ∷ 0 ∷ 0 ∷ 0 ∷ 0 ∷ 0 ∷ 0 ∷ 0 ∷ 0 ∷ 0 ∷ 0 ∷ 0 ∷ 0 ∷ 0 ∷ 0 ∷ 0 ∷ 0 ∷ 0 ∷ 0 ∷ 0 ∷ 0 ∷ 0 ∷ 0 ∷ 0 ∷ 0 ∷ 0 ∷ 0 ∷ 0 ∷ 0 ∷ 0 ∷ 0 ∷ 0 ∷ 0 ∷ 0 ∷ 0 ∷ 0 ∷ 0 ∷ 0 ∷ 0 ∷ 0 ∷ 0 ∷ 0 ∷ 0 ∷ 0 ∷ 0 ∷ 0 ∷ 0 ∷ 0 ∷ 0 ∷ 0 ∷ 0 ∷ 0 ∷ 0 ∷ 0 ∷ 0 ∷ 0 ∷ 0 ∷ 0 ∷ 0 ∷ 0 ∷ 0 ∷ 0 ∷ 0 ∷ 0 ∷ 0 ∷ 0 ∷ 0 ∷ []

unfoldable pub board_a : List ℕ
board_a = container ++ rsdp_bytes ++ xsdt_bytes ++ madt_head ++ core0 ++ core1 ++ core2 ++ lio_bytes ++ eio_bytes ++ msi_bytes ++ bio_bytes ++ lpc_bytes ++ fadt_bytes

-- MSI start 63, count 193
unfoldable pub msi_from_63 : List ℕ
unfolding board_a
msi_from_63 = set (set board_a 254 63) 258 193

-- MSI start 65, count 192
unfoldable pub msi_to_257 : List ℕ
unfolding board_a
msi_to_257 = set (set board_a 127 41) 254 65

-- EIO cascade 2
unfoldable pub eio_at_2 : List ℕ
unfolding board_a
eio_at_2 = set (set board_a 127 43) 233 2

-- ---- board A moved: of version 2, with pairs of 64 inputs for hardware IDs 0 and 5, and its FADT ahead of its MADT
-- the container: header, pairs and one descriptor
abbrev container_moved : List ℕ
container_moved = 84 ∷ 66 ∷ 67 ∷ 2 ∷ 0 ∷ 1 ∷ 34 ∷ 2 ∷ 0 ∷ 0 ∷ 0 ∷ 0 ∷ 0 ∷ 144 ∷ 0 ∷ 0 ∷ 0 ∷ 0 ∷ 0 ∷ 64 ∷ 5 ∷ 64 ∷ 0 ∷ 0 ∷ 0 ∷ 0 ∷ 0 ∷ 0 ∷ 0 ∷ 144 ∷ 0 ∷ 0 ∷ 0 ∷ 0 ∷ 252 ∷ 1 ∷ 0 ∷ 0 ∷ []

-- XSDT
abbrev xsdt_moved : List ℕ
xsdt_moved = 88 ∷ 83 ∷ 68 ∷ 84 ∷ 52 ∷ 0 ∷ 0 ∷ 0 ∷ 1 ∷ 129 ∷ 76 ∷ 79 ∷ 79 ∷ 78 ∷ 71 ∷ 83 ∷ 76 ∷ 79 ∷ 79 ∷ 78 ∷ 71 ∷ 83 ∷ 79 ∷ 78 ∷ 1 ∷ 0 ∷ 0 ∷ 0 ∷ 0 ∷ 0 ∷ 0 ∷ 0 ∷ 0 ∷ 0 ∷ 0 ∷ 0 ∷ 88 ∷ 0 ∷ 0 ∷ 144 ∷ 0 ∷ 0 ∷ 0 ∷ 0 ∷ 76 ∷ 1 ∷ 0 ∷ 144 ∷ 0 ∷ 0 ∷ 0 ∷ 0 ∷ []

unfoldable pub board_a_moved : List ℕ
board_a_moved = container_moved ++ rsdp_bytes ++ xsdt_moved ++ fadt_bytes ++ madt_head ++ core0 ++ core1 ++ core2 ++ lio_bytes ++ eio_bytes ++ msi_bytes ++ bio_bytes ++ lpc_bytes
