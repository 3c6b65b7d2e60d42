-- Writing entries into a list, one behind the other from its front on.
use Rattle.std.proofs.Common.{◌≡◌, ℕ, suc, ◌+◌, ◌*◌, ◌<◌, ◌≤◌, List, [], ◌∷◌, ◌++◌, length, get_or, drop, sym, refl, ◌∙◌, add-zero, add-suc, suc-add, zero-add, add-one, arith, length-append, drop-cons}
use Rattle.std.proofs.Math.ListN.{set}
use lib.Seq.{sets, sets-eq, length-sets}
use Rattle.words.specs.Lists.{in_each}
use Rattle.words.specs.Rooms.{written}

pub sets_append : {A : Type 0} (l : List A) (i : ℕ) (vs us : List A) → sets l i (vs ++ us) ≡ sets (sets l i vs) (i + length vs) us
sets_append l i [] us = rw add-zero
sets_append l i (v ∷ vs) us = rw (add-suc, ← suc-add) (sets_append (set l i v) (suc i) vs us)

-- ---- what a loop that writes `all` keeps: once what is left is written from place n on, the list is the one that is wanted
pub record Writing {A : Type 0} (all old list : List A) (n : ℕ) (left : List A) : Type 0 where
  pub fits : n + length left ≤ length list
  pub same : length list ≡ length old
  pub rest : sets list n left ≡ written all old

-- what is left begins with one entry of a certain length, and then come the later ones
pub record Next {A : Type 0} (entry : ℕ) (left one later : List A) : Type 0 where
  pub split : left ≡ one ++ later
  pub size : length one ≡ entry

pub write_start : {A : Type 0} (all old : List A) → length all ≤ length old → Writing all old old 0 all
unfolding written
write_start all old h = record { fits = omega arith; same = refl; rest = rw zero-add at (sets-eq all old 0 (omega arith)) }

module _ {A : Type 0} {all old list : List A} {n : ℕ} {left : List A} (inv : Writing all old list n left) where
  pub write_end : left ≡ [] → list ≡ written all old
  write_end e = rw e at inv.rest

  module _ {entry : ℕ} {one later : List A} (next : Next entry left one later) where
    room : n + (entry + length later) ≤ length list
    room = rw (next.split, length-append, next.size) at inv.fits

    pub write_room : n + entry ≤ length list
    write_room = let enough = room in omega arith

    pub write_next : {list' : List A} {n' : ℕ} → list' ≡ sets list n one → n' ≡ n + entry → Writing all old list' n' later
    write_next l m =
        let enough = room in
        let kept = length-sets list n one in
        rw (l, m)
        (record {
          fits = rw kept (omega arith);
          same = rw kept inv.same;
          rest = rw (← next.size) (sym (sets_append list n one later) ∙ (rw next.split at inv.rest));
        })

-- ---- what each of some things gives
module _ {A : Type 0} {B : Type 0} (gives : A → List B) where
  -- from thing k on: what it gives, and what the later ones give
  pub each_split : (xs : List A) (k : ℕ) (none : A) → k < length xs → in_each gives (drop k xs) ≡ gives (get_or xs k none) ++ in_each gives (drop (k + 1) xs)
  unfolding in_each
  each_split xs k none h = rw (drop-cons xs k none h, add-one)

  -- each gives as many
  pub each-length : (entry : ℕ) → ((x : A) → length (gives x) ≡ entry) → (xs : List A) → length (in_each gives xs) ≡ entry * length xs
  unfolding in_each
  each-length entry size [] = omega arith
  each-length entry size (x ∷ xs) = rw (length-append, size x, each-length entry size xs) (omega arith)
