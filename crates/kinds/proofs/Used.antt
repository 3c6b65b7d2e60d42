-- Laws of what is unused.
use mathlib.Core.Path.{◌≡◌, refl, sym, ◌∙◌}
use mathlib.Core.Bool.{Bool, true, false}
use Prim.Native.Nat.{ℕ}
use mathlib.Core.List.{List}
use lib.ListN.{replicate}
use Rattle.std.specs.Array.{AllOfLen}
use Rattle.std.proofs.lemmas.Grind.{same_number_lists}
use Rattle.std.proofs.lemmas.List.{get_or-replicate}
use Rattle.words.specs.Choice.{if}
use Rattle.kinds.specs.Used.{used_half, said_lio, said_ht, said_lpc, no_half, no_ht, no_lpc}
use Rattle.kinds.specs.declared.Lio.{Lio}
use Rattle.kinds.specs.declared.Ht.{Ht}
use Rattle.kinds.specs.declared.Lpc.{Lpc}

-- the bytes of an HT that is not there
pub no_bytes : {bytes : List ℕ} → AllOfLen (λ byte. byte ≡ 0) bytes 8 → bytes ≡ replicate 8 0
no_bytes {bytes} none =
    same_number_lists bytes (replicate 8 0) none.long
    (λ k l. none.at k 0 (rw none.long at l) ∙ sym (get_or-replicate {A = ℕ} 8 k 0 0 (rw none.long at l)))

-- whether there is a LIO, an HT or an LPC is said as it is
pub lpc_present : (lpc : Lpc) → (said_lpc lpc).present ≡ lpc.present
unfolding said_lpc if
lpc_present lpc = go lpc.present refl
  where
    go : (b : Bool) → lpc.present ≡ b → (if b lpc no_lpc).present ≡ b
    go true e = e
    go false e = refl

pub lio_present : (lio : Lio) → (said_lio lio).present ≡ lio.present
unfolding said_lio if
lio_present lio = go lio.present
  where
    go : (b : Bool)
        → (if {A = Lio} b (record { present = true; low = used_half lio.low; high = used_half lio.high }) (record { present = false; low = no_half; high = no_half })).present ≡ b
    go true = refl
    go false = refl

pub ht_present : (ht : Ht) → (said_ht ht).present ≡ ht.present
unfolding said_ht if
ht_present ht = go ht.present refl
  where
    go : (b : Bool) → ht.present ≡ b → (if b ht no_ht).present ≡ b
    go true e = e
    go false e = refl
