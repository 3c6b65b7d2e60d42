-- "any map may be asked about": maps that no capture gives. Each rule of 61 is broken alone, counts go past the arrays, and
-- unused places hold garbage; what a board with an HT answers; what numbers get that are asked at once, and with an owner table; and of a clash the earliest partner is told. All of it is computed by the definitions that the
-- contracts cite.
use Rattle.std.specs.Prelude.{ℕ, true, false, List, [], ◌∷◌, ◌++◌, map, ◌≡◌, length, take, set, replicate, Result, Ok, Err}
use Rattle.words.specs.Refusals.{Verdict, refused, refused_with}
use Rattle.words.specs.declared.Refusal.{Refusal}
use Rattle.kinds.specs.Used.{no_ht, no_eio, no_bio, no_msi}
use Rattle.kinds.specs.declared.Lio.{Lio}
use Rattle.kinds.specs.declared.Ht.{Ht}
use Rattle.kinds.specs.declared.Eio.{Eio}
use Rattle.kinds.specs.declared.Bio.{Bio}
use Rattle.kinds.specs.declared.Msi.{Msi}
use Rattle.kinds.specs.declared.Lpc.{Lpc}
use Rattle.lines.specs.Rules.{first_broken}
use Rattle.lines.specs.Answers.{route_of, trace_of, bad_map}
use Rattle.lines.specs.AtOnce.{at_once, answers_after}
use Rattle.lines.specs.declared.Map.{Map}
use Rattle.lines.specs.declared.Owner.{Owner}
use Rattle.lines.specs.declared.Owner.TheVariants.{LpcInput as OwnedByLpc, LioInput as OwnedByLio, BioInput as OwnedByBio, Nobody}
use Rattle.lines.specs.declared.Places.{Places}
use Rattle.lines.specs.declared.Route.{Route}
use Rattle.lines.specs.declared.Route.TheVariants.{Arrives, Unwired, NoOwner}
use Rattle.lines.specs.declared.Trace.{Trace}
use Rattle.lines.specs.declared.Trace.TheVariants.{Nothing, LioInput, BioInput, LpcCascade, MsiSlot}
use Rattle.owners.specs.Table.{table_of, empty_table}
use Rattle.owners.specs.Lookups.{filling_of, lookup_of}
use Rattle.owners.specs.declared.OwnerTable.{OwnerTable}
use Rattle.owners.specs.declared.Filling.{Filling}

-- ---- structures
-- a LIO by its low and its high half, each by cascade and mask
abbrev pub lio : ℕ → ℕ → ℕ → ℕ → Lio
lio low lowmask high highmask =
    record { present = true; low = record { cascade = low; mask = lowmask }; high = record { cascade = high; mask = highmask } }

-- an HT by its eight bytes
abbrev pub ht : List ℕ → Ht
ht bytes = record { present = true; bytes = bytes }

-- an EIO by its cascade and its node; a bridge by its hardware ID and its base, with 64 inputs or so many; slots by the first and
-- their number
abbrev pub eio : ℕ → ℕ → Eio
eio cascade node = record { cascade = cascade; node = node; nodes = 1 }

abbrev pub short_bio : ℕ → ℕ → ℕ → Bio
short_bio node base pins = record { node = node; base = base; pins = pins }

abbrev pub bio : ℕ → ℕ → Bio
bio node base = short_bio node base 64

abbrev pub msi : ℕ → ℕ → Msi
msi start count = record { start = start; count = count }

-- an LPC by its cascade, behind the bridge of node 0 or of another
abbrev pub lpc_on : ℕ → ℕ → Lpc
lpc_on node cascade = record { present = true; node = node; cascade = cascade }

abbrev pub lpc : ℕ → Lpc
lpc = lpc_on 0

-- one that is not there, with a node and a cascade left over
abbrev pub absent_lpc : ℕ → Lpc
absent_lpc cascade = record { present = false; node = 9; cascade = cascade }

-- an HT that is not there, with bytes left over
abbrev pub absent_ht : Ht
absent_ht = record { present = false; bytes = 1 ∷ 1 ∷ 1 ∷ 1 ∷ 1 ∷ 1 ∷ 1 ∷ 255 ∷ [] }

-- ---- maps that differ from board A's in one kind: by a count and an array, or by what is used
abbrev pub used : {A : Type 0} → A → List A → ℕ × List A
used none xs = (length xs, take 4 (xs ++ replicate 4 none))

abbrev pub eios : List Eio → ℕ × List Eio
eios = used no_eio

abbrev pub bios : List Bio → ℕ × List Bio
bios = used no_bio

abbrev pub msis : List Msi → ℕ × List Msi
msis = used no_msi

abbrev pub holding_ht : Ht → Lio → ℕ × List Eio → ℕ × List Bio → ℕ × List Msi → Lpc → ℕ → Map
holding_ht ht lio eios bios msis lpc sci =
    record {
      lio = lio;
      ht = ht;
      eiocount = eios.0;
      eios = eios.1;
      biocount = bios.0;
      bios = bios.1;
      msicount = msis.0;
      msis = msis.1;
      lpc = lpc;
      sci = sci;
    }

abbrev pub holding : Lio → ℕ × List Eio → ℕ × List Bio → ℕ × List Msi → Lpc → ℕ → Map
holding = holding_ht no_ht

abbrev pub lio_a : Lio
lio_a = lio 2 0xFFFFFF 0 0

abbrev pub eios_a : ℕ × List Eio
eios_a = eios (eio 3 0 ∷ [])

abbrev pub bios_a : ℕ × List Bio
bios_a = bios (bio 0 64 ∷ [])

abbrev pub msis_a : ℕ × List Msi
msis_a = msis (msi 64 192 ∷ [])

abbrev pub with_lio : Lio → Map
with_lio other = holding other eios_a bios_a msis_a (lpc 19) 75

abbrev pub with_eios : ℕ × List Eio → Map
with_eios others = holding lio_a others bios_a msis_a (lpc 19) 75

abbrev pub with_bios : ℕ × List Bio → Map
with_bios others = holding lio_a eios_a others msis_a (lpc 19) 75

abbrev pub with_msis : ℕ × List Msi → Map
with_msis others = holding lio_a eios_a bios_a others (lpc 19) 75

abbrev pub with_lpc : Lpc → Map
with_lpc other = holding lio_a eios_a bios_a msis_a other 75

abbrev pub with_sci : ℕ → Map
with_sci = holding lio_a eios_a bios_a msis_a (lpc 19)

-- one bridge with so many inputs
abbrev pub with_pins : ℕ → ℕ × List Msi → Lpc → ℕ → Map
with_pins pins = holding lio_a eios_a (bios (short_bio 0 64 pins ∷ []))

-- two EIO, of nodes 0 and 5
abbrev pub on_two : ℕ × List Bio → ℕ × List Msi → Map
on_two bios msis = holding lio_a (eios (eio 3 0 ∷ eio 4 5 ∷ [])) bios msis (lpc 19) 75

-- with a bridge on each
abbrev pub behind_either : ℕ × List Bio → Lpc → ℕ → Map
behind_either bios = holding lio_a (eios (eio 3 0 ∷ eio 4 5 ∷ [])) bios msis_a

abbrev pub two_bridges : Lpc → ℕ → Map
two_bridges = behind_either (bios (bio 0 64 ∷ bio 5 128 ∷ []))

-- board A with an HT in the place of its EIO, on a LIO with two halves: inputs 0 to 15 at core vector 2, 16 to 23 at 3
abbrev pub halves : Lio
halves = lio 2 0xFFFF 3 0xFF0000

abbrev pub on_ht : List ℕ → ℕ × List Bio → ℕ × List Msi → Lpc → ℕ → Map
on_ht bytes bios msis = holding_ht (ht bytes) halves (eios []) bios msis

-- its first 32 vectors go to input 16, the next ones to inputs 1 to 7
abbrev pub bytes_a : List ℕ
bytes_a = 16 ∷ 1 ∷ 2 ∷ 3 ∷ 4 ∷ 5 ∷ 6 ∷ 7 ∷ []

abbrev pub ht_a : Map
ht_a = on_ht bytes_a bios_a msis_a (lpc 19) 75

-- its last byte names input 24, which is not wired, though nothing lands on its vectors
abbrev pub unwired : List ℕ
unwired = 16 ∷ 1 ∷ 2 ∷ 3 ∷ 4 ∷ 5 ∷ 6 ∷ 24 ∷ []

-- four of each kind that may repeat, with other counts
abbrev pub counting : ℕ → ℕ → ℕ → Map
counting e b m =
    holding lio_a
    (e, eio 3 0 ∷ eio 4 1 ∷ eio 5 2 ∷ eio 6 3 ∷ [])
    (b, bio 0 64 ∷ bio 1 128 ∷ bio 2 192 ∷ bio 3 256 ∷ [])
    (m, msi 64 1 ∷ msi 65 1 ∷ msi 66 1 ∷ msi 67 1 ∷ [])
    (lpc 19) 75

-- ---- questions and answers
-- places of the LIO and of the first EIO (or HT), MSI and BIO; a second one stands behind all of them, and so does a third MSI
abbrev pub at : ℕ → ℕ → ℕ → ℕ → Places
at lio eio msi bio =
    record {
      lio = lio;
      ht = eio;
      eios = eio ∷ 294 ∷ 0 ∷ 0 ∷ [];
      bios = bio ∷ 314 ∷ 0 ∷ 0 ∷ [];
      msis = msi ∷ 334 ∷ 354 ∷ 0 ∷ [];
      lpc = 279;
    }

-- where a number arrives; where each of some numbers does, with a list for the answers; what arrives at a vector with a number; the first
-- broken rule, with the MADT at 118 and the FADT at 400; what comes of filling an owner table; whose a number is, with an owner table
pub data Question : Type 0 where
  number : ℕ → Question
  numbers : List ℕ → List ℕ → Question
  arrival : ℕ → ℕ → Question
  rules : Places → Question
  table : Question
  beside : OwnerTable → ℕ → Question

pub data Told : Type 0 where
  routed : Result Route Refusal → Told
  listed : Verdict → List ℕ → Told
  traced : Result Trace Refusal → Told
  judged : Verdict → Told
  filled : Filling → Told
  whose : Result (Owner × Route) Refusal → Told

unfoldable pub told : Map → Question → Told
told map (number n) = routed (route_of map n)
told map (numbers ns answers) = listed (at_once map ns answers) (answers_after map ns answers)
told map (arrival vector n) = traced (trace_of map vector n)
told map (rules places) = judged (first_broken map places 118 400)
told map table = filled (filling_of map)
told map (beside owners n) = whose (lookup_of map owners n)

pub data Example : Type 0 where
  example : Map → Question → Told → Example

abbrev pub given : Example → Told
given (example map question answer) = told map question

abbrev pub expected : Example → Told
expected (example map question answer) = answer

-- 72 and 26 are asked, and refused with 61
abbrev pub no72 : Map → Example
no72 map = example map (number 72) (routed (Err bad_map))

abbrev pub no26 : Map → Example
no26 map = example map (number 26) (routed (Err bad_map))

-- ---- each rule broken alone
unfoldable pub broken_alone : List Example
broken_alone =
    -- 71 to 78
    no72 (with_eios (eios (eio 1 0 ∷ [])))
    ∷ no72 (with_eios (eios (eio 10 0 ∷ [])))
    ∷ no72 (with_eios (eios (eio 3 0 ∷ eio 4 64 ∷ [])))
    ∷ no72 (with_eios (eios (record { cascade = 3; node = 0; nodes = 0 } ∷ [])))
    ∷ no72 (with_lio (lio 10 0xFFFFFF 0 0))
    ∷ no72 (with_lio (lio 0 0 1 0xFFFFFF))
    ∷ no72 (with_msis (msis (msi 64 0 ∷ [])))
    ∷ no72 (with_msis (msis (msi 65 192 ∷ [])))
    ∷ no72 (with_msis (msis (msi 0xFFFFFFFF 2 ∷ [])))
    ∷ no72 (with_bios (bios (bio 0 63 ∷ [])))
    ∷ no26 (holding lio_a eios_a (bios (bio 0 65473 ∷ [])) msis_a (lpc 19) 26)
    ∷ no72 (with_lpc (lpc 64))
    -- 78
    ∷ no72 (on_ht (32 ∷ 1 ∷ 2 ∷ 3 ∷ 4 ∷ 5 ∷ 6 ∷ 7 ∷ []) bios_a msis_a (lpc 19) 75)
    ∷ no72 (on_ht (16 ∷ 1 ∷ 2 ∷ 3 ∷ 4 ∷ 5 ∷ 6 ∷ 255 ∷ []) bios_a msis_a (lpc 19) 75)
    -- a count outside 1 to 64
    ∷ no26 (with_pins 0 msis_a (absent_lpc 0) 26)
    ∷ no72 (with_pins 65 (msis (msi 65 191 ∷ [])) (lpc 19) 75)
    ∷ no72 (with_pins 65535 (msis []) (lpc 19) 75)
    ∷ example (with_pins 1 msis_a (absent_lpc 0) 64) (number 64) (routed (Ok (Arrives 3 0)))
    -- 37
    ∷ no72 (with_lio (lio 2 255 5 128))
    -- 38
    ∷ example (counting 4 4 4) (number 72) (routed (Ok (Arrives 3 8)))
    ∷ no72 (counting 5 4 4)
    ∷ no72 (counting 4 5 4)
    ∷ no72 (counting 4 4 255)
    -- 34
    ∷ no72 (holding_ht (ht bytes_a) halves eios_a bios_a msis_a (lpc 19) 75)
    ∷ no72 (holding_ht (ht bytes_a) lio_a (eios (eio 3 0 ∷ [])) bios_a msis_a (lpc 19) 75)
    -- 40
    ∷ no72 (holding_ht (ht bytes_a) (record { present = false; low = record { cascade = 2; mask = 0xFFFF }; high = record { cascade = 3; mask = 0xFF0000 } }) (eios []) bios_a msis_a (lpc 19) 75)
    ∷ no72 (with_lio (record { present = false; low = record { cascade = 2; mask = 1 }; high = record { cascade = 0; mask = 0 } }))
    ∷ no26 (holding lio_a (eios []) (bios []) msis_a (absent_lpc 0) 26)
    -- 41 to 43
    ∷ no72 (with_eios (eios (eio 3 0 ∷ eio 4 0 ∷ [])))
    ∷ no72 (with_bios (bios (bio 0 64 ∷ bio 9 128 ∷ [])))
    ∷ no26 (holding lio_a eios_a (bios []) msis_a (lpc 19) 26)
    ∷ no26 (two_bridges (lpc_on 3 19) 26)
    ∷ no72 (on_ht bytes_a (bios (bio 5 64 ∷ [])) msis_a (absent_lpc 0) 75)
    ∷ no72 (on_ht bytes_a bios_a msis_a (lpc_on 5 19) 75)
    -- 44
    ∷ no72 (on_ht unwired bios_a (msis []) (lpc 19) 75)
    -- 45
    ∷ no26 (with_pins 19 msis_a (lpc 19) 26)
    ∷ no26 (behind_either (bios (bio 0 64 ∷ short_bio 5 128 19 ∷ [])) (lpc_on 5 19) 26)
    ∷ example (with_pins 20 msis_a (lpc 19) 26) (number 3) (routed (Ok (Arrives 3 19)))
    -- 51 to 54
    ∷ no72 (on_two (bios (bio 0 64 ∷ bio 5 127 ∷ [])) msis_a)
    ∷ no72 (with_msis (msis (msi 63 193 ∷ [])))
    ∷ no72 (with_eios (eios (eio 2 0 ∷ [])))
    ∷ no72 (with_sci 45)
    ∷ no72 (on_ht bytes_a bios_a msis_a (lpc 19) 17)
    ∷ example (with_sci 45) (arrival 3 8) (traced (Err bad_map))
    ∷ []

-- ---- "A new bridge has 32 inputs": its numbers, its vectors, and what others may have behind it (W-212 of document 02)
abbrev pub with32 : Map
with32 = with_pins 32 (msis (msi 32 224 ∷ [])) (lpc 19) 75

abbrev pub behind32 : Map
behind32 = on_two (bios (short_bio 0 64 32 ∷ bio 5 96 ∷ [])) msis_a

unfoldable pub fewer_pins : List Example
fewer_pins =
    example with32 (number 95) (routed (Ok (Arrives 3 31)))
    ∷ example with32 (number 96) (routed (Ok NoOwner))
    ∷ example with32 (arrival 3 31) (traced (Ok (BioInput 95)))
    ∷ example with32 (arrival 3 32) (traced (Ok (MsiSlot 0 32)))
    ∷ example with32 (arrival 3 19) (traced (Ok (LpcCascade 83)))
    ∷ example (with_pins 32 msis_a (lpc 19) 75) (arrival 3 32) (traced (Ok Nothing))
    ∷ example behind32 (number 95) (routed (Ok (Arrives 3 31)))
    ∷ example behind32 (number 96) (routed (Ok (Arrives 4 0)))
    ∷ example behind32 (number 160) (routed (Ok NoOwner))
    ∷ example behind32 (arrival 4 0) (traced (Ok (BioInput 96)))
    ∷ []

-- ---- "On a two-bridge server the LPC sat on node 5, and we showed it on node 0" (W-208 of document 02)
unfoldable pub right_bridge : List Example
right_bridge =
    example (two_bridges (lpc_on 5 19) 75) (number 3) (routed (Ok (Arrives 4 19)))
    ∷ example (two_bridges (lpc_on 5 19) 75) (arrival 4 19) (traced (Ok (LpcCascade 147)))
    ∷ example (two_bridges (lpc_on 5 19) 75) (arrival 3 19) (traced (Ok (BioInput 83)))
    ∷ example (two_bridges (lpc_on 0 19) 75) (number 3) (routed (Ok (Arrives 3 19)))
    ∷ example (two_bridges (lpc_on 0 19) 75) (arrival 3 19) (traced (Ok (LpcCascade 83)))
    ∷ example (two_bridges (lpc_on 0 19) 75) (arrival 4 19) (traced (Ok (BioInput 147)))
    -- the SCI is an LPC line
    ∷ example (two_bridges (lpc_on 5 19) 3) (number 3) (routed (Ok (Arrives 4 19)))
    -- no base gives a node over 15, a map may hold it
    ∷ example (holding lio_a (eios (eio 3 63 ∷ [])) (bios (bio 63 64 ∷ [])) msis_a (lpc_on 63 19) 75) (number 3) (routed (Ok (Arrives 3 19)))
    -- the other bridge may be a short one
    ∷ example (behind_either (bios (short_bio 0 64 10 ∷ bio 5 128 ∷ [])) (lpc_on 5 19) 26) (number 3) (routed (Ok (Arrives 4 19)))
    ∷ []

-- ---- "Take a list of 32-bit global numbers and a list for the answers, three numbers each" (W-209 of document 02); 7 is what the list held
unfoldable pub many_at_once : List Example
many_at_once =
    example (with_sci 75) (numbers (72 ∷ 44 ∷ 60 ∷ []) (replicate 10 7)) (listed (Ok tt) (0 ∷ 3 ∷ 8 ∷ 1 ∷ 0 ∷ 0 ∷ 2 ∷ 0 ∷ 0 ∷ 7 ∷ []))
    ∷ example ht_a (numbers (17 ∷ 72 ∷ []) (replicate 6 7)) (listed (Ok tt) (2 ∷ 0 ∷ 0 ∷ 0 ∷ 3 ∷ 264 ∷ []))
    ∷ example (two_bridges (lpc_on 5 19) 75) (numbers (147 ∷ 3 ∷ []) (replicate 9 7)) (listed (Ok tt) (0 ∷ 4 ∷ 19 ∷ 0 ∷ 4 ∷ 19 ∷ 7 ∷ 7 ∷ 7 ∷ []))
    ∷ example (with_sci 75) (numbers (0xFFFFFFFF ∷ []) (replicate 3 7)) (listed (Ok tt) (2 ∷ 0 ∷ 0 ∷ []))
    ∷ example (with_sci 75) (numbers [] []) (listed (Ok tt) [])
    ∷ example (with_sci 75) (numbers [] (7 ∷ [])) (listed (Ok tt) (7 ∷ []))
    ∷ example (with_sci 75) (numbers (72 ∷ []) (7 ∷ 7 ∷ [])) (listed (Err (refused 62 0)) (7 ∷ 7 ∷ []))
    -- 61 first, also for no numbers
    ∷ example (with_sci 45) (numbers (72 ∷ []) (7 ∷ 7 ∷ [])) (listed (Err bad_map) (7 ∷ 7 ∷ []))
    ∷ example (counting 5 4 4) (numbers (72 ∷ []) (7 ∷ 7 ∷ 7 ∷ [])) (listed (Err bad_map) (7 ∷ 7 ∷ 7 ∷ []))
    ∷ example (with_sci 45) (numbers [] []) (listed (Err bad_map) [])
    ∷ []

-- ---- "Keep, beside the map, a table of owners for the numbers 0 to 319" (W-211 of document 02)
-- board A with a bridge of node 5 behind, from a number on
abbrev pub bridge_from : ℕ → Map
bridge_from base = on_two (bios (bio 0 64 ∷ bio 5 base ∷ [])) msis_a

-- board A's table with the owner of one number changed
abbrev pub changed : ℕ → Owner → OwnerTable
changed n owner = record { entries = set (table_of (with_sci 75)).entries n owner }

abbrev pub looked : Map → OwnerTable → ℕ → Owner → Route → Example
looked map owners n owner route = example map (beside owners n) (whose (Ok (owner, route)))

abbrev pub turned : Map → OwnerTable → ℕ → ℕ → Example
turned map owners n refusal = example map (beside owners n) (whose (Err (refused refusal 0)))

unfoldable pub beside_the_map : List Example
beside_the_map =
    looked (with_sci 75) (table_of (with_sci 75)) 0 OwnedByLpc (Arrives 3 19)
    ∷ looked (with_sci 75) (table_of (with_sci 75)) 15 OwnedByLpc (Arrives 3 19)
    ∷ looked (with_sci 75) (table_of (with_sci 75)) 26 (OwnedByLio 10) (Arrives 2 10)
    ∷ looked (with_sci 75) (table_of (with_sci 75)) 44 (OwnedByLio 28) Unwired
    ∷ looked (with_sci 75) (table_of (with_sci 75)) 60 Nobody NoOwner
    ∷ looked (with_sci 75) (table_of (with_sci 75)) 83 (OwnedByBio 0 19) (Arrives 3 19)
    ∷ looked (with_sci 75) (table_of (with_sci 75)) 0xFFFFFFFF Nobody NoOwner
    -- an input that the HT names has no owner
    ∷ looked ht_a (table_of ht_a) 17 Nobody NoOwner
    ∷ looked ht_a (table_of ht_a) 72 (OwnedByBio 0 8) (Arrives 3 264)
    -- 319 is the table's last
    ∷ looked (bridge_from 300) (table_of (bridge_from 300)) 319 (OwnedByBio 5 19) (Arrives 4 19)
    ∷ looked (bridge_from 300) (table_of (bridge_from 300)) 320 (OwnedByBio 5 20) (Arrives 4 20)
    ∷ looked (bridge_from 320) (table_of (with_sci 75)) 320 (OwnedByBio 5 0) (Arrives 4 0)
    ∷ turned (bridge_from 319) (table_of (with_sci 75)) 0 63
    -- a table says whose a number is, and the map where it arrives
    ∷ looked (with_eios (eios (eio 9 0 ∷ []))) (table_of (with_sci 75)) 72 (OwnedByBio 0 8) (Arrives 9 8)
    -- one entry that differs is enough: in its kind, its input, its hardware ID; asked or not, above the table too
    ∷ turned (with_sci 75) (changed 0 Nobody) 0 63
    ∷ turned (with_sci 75) (changed 319 OwnedByLpc) 72 63
    ∷ turned (with_sci 75) (changed 26 (OwnedByLio 11)) 400 63
    ∷ turned (with_sci 75) (changed 72 (OwnedByBio 0 9)) 72 63
    ∷ turned (with_sci 75) (changed 72 (OwnedByBio 5 8)) 72 63
    ∷ turned (with_sci 75) empty_table 72 63
    -- 61 first, of the table that such a map would fill in, and of any other
    ∷ turned (with_sci 45) (table_of (with_sci 45)) 72 61
    ∷ turned (with_sci 45) empty_table 72 61
    ∷ turned (counting 5 4 4) (table_of (with_sci 75)) 72 61
    ∷ example (with_sci 45) table (filled (record { verdict = Err bad_map; table = empty_table }))
    ∷ []

-- ---- "Our older units have an HT controller in place of the EIO" (W-201 of document 02)
unfoldable pub on_the_ht : List Example
on_the_ht =
    -- bridge inputs and slots: at the core vector of the input that their byte names, with 256 above their vector
    example ht_a (number 72) (routed (Ok (Arrives 3 264)))
    ∷ example ht_a (number 95) (routed (Ok (Arrives 3 287)))
    ∷ example ht_a (number 96) (routed (Ok (Arrives 2 288)))
    ∷ example ht_a (number 127) (routed (Ok (Arrives 2 319)))
    ∷ example ht_a (number 128) (routed (Ok NoOwner))
    ∷ example ht_a (number 3) (routed (Ok (Arrives 3 275)))
    ∷ example ht_a (arrival 3 264) (traced (Ok (BioInput 72)))
    ∷ example ht_a (arrival 2 264) (traced (Ok Nothing))
    ∷ example ht_a (arrival 2 319) (traced (Ok (BioInput 127)))
    ∷ example ht_a (arrival 3 319) (traced (Ok Nothing))
    ∷ example ht_a (arrival 3 275) (traced (Ok (LpcCascade 83)))
    ∷ example ht_a (arrival 2 320) (traced (Ok (MsiSlot 0 64)))
    ∷ example ht_a (arrival 2 511) (traced (Ok (MsiSlot 0 255)))
    ∷ example ht_a (arrival 2 512) (traced (Ok Nothing))
    ∷ example ht_a (arrival 3 255) (traced (Ok Nothing))
    -- LIO inputs: those that a byte names have no owner, and arrive nowhere
    ∷ example ht_a (number 16) (routed (Ok (Arrives 2 0)))
    ∷ example ht_a (number 17) (routed (Ok NoOwner))
    ∷ example ht_a (number 23) (routed (Ok NoOwner))
    ∷ example ht_a (number 24) (routed (Ok (Arrives 2 8)))
    ∷ example ht_a (number 32) (routed (Ok NoOwner))
    ∷ example ht_a (number 35) (routed (Ok (Arrives 3 19)))
    ∷ example ht_a (number 45) (routed (Ok Unwired))
    ∷ example ht_a (arrival 2 1) (traced (Ok Nothing))
    ∷ example ht_a (arrival 2 0) (traced (Ok (LioInput 16)))
    ∷ example ht_a (arrival 3 16) (traced (Ok Nothing))
    ∷ example ht_a (arrival 3 19) (traced (Ok (LioInput 35)))
    -- several bytes may name one input
    ∷ example (on_ht (9 ∷ 9 ∷ 9 ∷ 9 ∷ 9 ∷ 9 ∷ 9 ∷ 9 ∷ []) bios_a msis_a (lpc 19) 75) (number 127) (routed (Ok (Arrives 2 319)))
    ∷ example (on_ht (9 ∷ 9 ∷ 9 ∷ 9 ∷ 9 ∷ 9 ∷ 9 ∷ 9 ∷ []) bios_a msis_a (lpc 19) 17) (number 17) (routed (Ok (Arrives 2 1)))
    ∷ example (on_ht (9 ∷ 9 ∷ 9 ∷ 9 ∷ 9 ∷ 9 ∷ 9 ∷ 9 ∷ []) bios_a msis_a (lpc 19) 17) (number 25) (routed (Ok NoOwner))
    -- a bridge with 32 inputs, and slots behind them
    ∷ example (on_ht bytes_a (bios (short_bio 0 64 32 ∷ [])) (msis (msi 32 224 ∷ [])) (lpc 19) 75) (arrival 2 288) (traced (Ok (MsiSlot 0 32)))
    ∷ []

-- ---- "its unused places … hold 0, and 61 doesn't look at them": nor does any answer
unfoldable pub unused_places : List Example
unused_places =
    example (with_lio (lio 2 0xFFFFFF 77 0)) (number 26) (routed (Ok (Arrives 2 10)))
    ∷ example (with_lio (lio 2 0xFFFFFF 3 0)) (number 72) (routed (Ok (Arrives 3 8)))
    ∷ example (with_eios (1, eio 3 0 ∷ eio 3 200 ∷ eio 3 0 ∷ eio 0 0 ∷ [])) (arrival 3 8) (traced (Ok (BioInput 72)))
    ∷ example (with_bios (1, bio 0 64 ∷ bio 0 1 ∷ bio 0 64 ∷ bio 9 9 ∷ [])) (number 72) (routed (Ok (Arrives 3 8)))
    ∷ example (with_msis (1, msi 64 192 ∷ msi 0 0xFFFFFFFF ∷ msi 64 192 ∷ msi 0 0 ∷ [])) (arrival 3 64) (traced (Ok (MsiSlot 0 64)))
    ∷ example (with_lpc (absent_lpc 999)) (number 72) (routed (Ok (Arrives 3 8)))
    ∷ example (with_lpc (absent_lpc 19)) (number 3) (routed (Ok NoOwner))
    ∷ example (with_lpc (absent_lpc 19)) (arrival 3 19) (traced (Ok (BioInput 83)))
    ∷ example (holding_ht absent_ht lio_a eios_a bios_a msis_a (lpc 19) 75) (number 72) (routed (Ok (Arrives 3 8)))
    ∷ example (holding_ht absent_ht lio_a eios_a bios_a msis_a (lpc 19) 75) (number 17) (routed (Ok (Arrives 2 1)))
    ∷ []

-- ---- the first broken rule, its place and the second one
abbrev pub names : Map → Places → ℕ → ℕ → ℕ → Example
names map places n place second = example map (rules places) (judged (Err (refused_with n place second)))

unfoldable pub first_named : List Example
first_named =
    example (with_sci 75) (rules (at 207 230 243 262)) (judged (Ok tt))
    ∷ names (counting 4 5 4) (at 207 230 243 262) 38 118 0
    ∷ names (with_eios (eios [])) (at 207 230 243 262) 40 118 0
    ∷ names (with_eios (eios (eio 3 0 ∷ eio 3 0 ∷ []))) (at 207 230 243 262) 41 294 0
    ∷ names (with_bios (bios (bio 9 64 ∷ []))) (at 207 230 243 262) 42 262 0
    ∷ names (with_bios (bios [])) (at 207 230 243 262) 43 279 0
    -- 43 where others are there, behind 42 and before 45
    ∷ names (with_lpc (lpc_on 5 19)) (at 207 230 243 262) 43 279 0
    ∷ names (two_bridges (lpc_on 3 19) 75) (at 207 230 243 262) 43 279 0
    ∷ names (holding lio_a eios_a (bios (short_bio 0 64 10 ∷ [])) msis_a (lpc_on 5 19) 45) (at 207 230 243 262) 43 279 0
    ∷ names (holding lio_a eios_a (bios (bio 9 64 ∷ [])) msis_a (lpc_on 5 19) 75) (at 207 230 243 262) 42 262 0
    -- 45, behind 42 and before 51, by the count of the LPC's own bridge, "the earliest of equals"
    ∷ names (behind_either (bios (bio 0 64 ∷ short_bio 5 128 19 ∷ [])) (lpc_on 5 19) 75) (at 207 230 243 262) 45 279 0
    ∷ names (with_bios (bios (short_bio 0 64 19 ∷ bio 0 128 ∷ []))) (at 207 230 243 262) 45 279 0
    ∷ names (with_bios (bios (bio 0 64 ∷ short_bio 0 128 19 ∷ []))) (at 207 230 243 262) 52 314 262
    ∷ names (with_bios (bios (short_bio 9 64 19 ∷ []))) (at 207 230 243 262) 42 262 0
    ∷ names (with_pins 19 msis_a (lpc 19) 26) (at 207 230 243 262) 45 279 0
    ∷ names (with_bios (bios (short_bio 0 64 19 ∷ short_bio 0 64 19 ∷ []))) (at 207 230 243 262) 45 279 0
    ∷ example (on_two (bios (bio 0 64 ∷ short_bio 5 128 10 ∷ [])) msis_a) (rules (at 207 230 243 262)) (judged (Ok tt))
    ∷ names (with_bios (bios (bio 0 64 ∷ bio 0 64 ∷ []))) (at 207 230 243 262) 51 314 262
    ∷ names (on_two (bios (bio 0 64 ∷ bio 5 127 ∷ [])) msis_a) (at 207 230 243 262) 51 314 262
    ∷ names (with_bios (bios (bio 0 64 ∷ bio 0 128 ∷ []))) (at 207 230 243 262) 52 314 262
    -- by the counts
    ∷ names (on_two (bios (short_bio 0 64 33 ∷ bio 5 96 ∷ [])) msis_a) (at 207 230 243 262) 51 314 262
    ∷ example behind32 (rules (at 207 230 243 262)) (judged (Ok tt))
    ∷ names (with_pins 33 (msis (msi 32 224 ∷ [])) (lpc 19) 75) (at 207 230 243 262) 52 262 243
    ∷ example with32 (rules (at 207 230 243 262)) (judged (Ok tt))
    ∷ names (with_pins 32 msis_a (lpc 19) 96) (at 207 230 243 262) 54 400 0
    -- of slots and a bridge the later is named, and never the EIO
    ∷ names (with_msis (msis (msi 63 193 ∷ []))) (at 207 230 243 262) 52 262 243
    ∷ names (with_msis (msis (msi 0 64 ∷ []))) (at 207 230 262 243) 52 262 243
    ∷ names (with_msis (msis (msi 0 64 ∷ []))) (at 207 299 230 249) 52 249 230
    -- the first that clashes, with the earliest that it clashes with
    ∷ names (with_msis (msis (msi 64 64 ∷ msi 100 8 ∷ msi 0 8 ∷ []))) (at 207 230 262 243) 52 334 262
    ∷ names (with_msis (msis (msi 64 64 ∷ msi 128 64 ∷ msi 100 64 ∷ []))) (at 207 230 243 262) 52 354 243
    -- "by that rule": the second bridge shares numbers with the first, and vectors with the slots that stand before both
    ∷ names (holding lio_a eios_a (bios (bio 0 64 ∷ bio 0 64 ∷ [])) (msis (msi 0 8 ∷ [])) (lpc 19) 75) (at 207 230 243 262) 51 314 262
    ∷ names (with_eios (eios (eio 2 0 ∷ []))) (at 207 230 243 262) 53 230 207
    ∷ names (with_eios (eios (eio 2 0 ∷ []))) (at 220 207 243 262) 53 220 207
    ∷ names (with_lio (lio 2 255 3 0xFF00)) (at 207 230 243 262) 53 230 207
    ∷ names (with_sci 45) (at 207 230 243 262) 54 400 0
    -- with an HT: 42 of a hardware ID that is not 0; 44 behind 43 and before 45; 52 of HT vectors; 53 of none
    ∷ example ht_a (rules (at 207 230 243 262)) (judged (Ok tt))
    ∷ names (on_ht unwired (bios (bio 5 64 ∷ [])) msis_a (lpc_on 5 19) 75) (at 207 230 243 262) 42 262 0
    ∷ names (on_ht unwired bios_a msis_a (lpc_on 5 19) 75) (at 207 230 243 262) 43 279 0
    ∷ names (on_ht unwired bios_a msis_a (lpc 19) 75) (at 207 230 243 262) 44 230 0
    ∷ names (on_ht unwired (bios (short_bio 0 64 19 ∷ [])) (msis (msi 0 64 ∷ [])) (lpc 19) 17) (at 207 230 243 262) 44 230 0
    ∷ names (on_ht bytes_a (bios (short_bio 0 64 19 ∷ [])) (msis (msi 0 64 ∷ [])) (lpc 19) 17) (at 207 230 243 262) 45 279 0
    ∷ names (on_ht bytes_a bios_a (msis (msi 63 193 ∷ [])) (lpc 19) 17) (at 207 230 243 262) 52 262 243
    ∷ names (on_ht bytes_a (bios (bio 0 64 ∷ bio 0 128 ∷ [])) msis_a (lpc 19) 75) (at 207 230 243 262) 52 314 262
    ∷ names (on_ht bytes_a bios_a msis_a (lpc 19) 17) (at 207 230 243 262) 54 400 0
    ∷ []

-- asked in turn, the definitions give the answers
abbrev pub MapExamples : List Example → Type 0
MapExamples examples = map given examples ≡ map expected examples
