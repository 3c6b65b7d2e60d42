-- Laws of the list as bytes: its length, its parts, and that filling it is filling the list of numbers.
use mathlib.Core.Path.{◌≡◌, refl, sym, ◌∙◌}
use mathlib.Core.Bool.{Bool, true, false}
use mathlib.Core.List.{List, [], ◌∷◌, ◌++◌}
use Prim.Native.Nat.{ℕ, zero, suc, ◌+◌, ◌*◌}
use native.Mathlib.Omega.{arith}
use borrow.Author.Tests.{le-leb, lt-leb, leb-true, leb-false}
use lib.Dec.{leb}
use lib.ListN.{length, drop}
use lib.Seq.{sets}
use Rattle.words.specs.Choice.{if}
use Rattle.processors.specs.Image.{four_bytes, image}
use Rattle.words.proofs.Rooms.{sets_append}
use Rattle.words.specs.Rooms.{has_room, written, filled}
use Rattle.processors.specs.Listing.{processors, count}
use Rattle.processors.specs.Spelling.{in_bytes}
use Rattle.processors.proofs.Filling.{twice_all}

pub four_length : (x : ℕ) → length (four_bytes x) ≡ 4
unfolding four_bytes
four_length x = refl

pub image_two : (x y : ℕ) → image (x ∷ y ∷ []) ≡ four_bytes x ++ four_bytes y
unfolding image four_bytes
image_two x y = refl

-- four for each number
pub image-length : (xs : List ℕ) → length (image xs) ≡ 4 * length xs
unfolding image four_bytes
image-length [] = refl
image-length (x ∷ xs) = let rest = image-length xs in omega arith

-- eight for each enabled CORE
pub eight_each : (table : List ℕ) → length (image (processors table)) ≡ 8 * count table
eight_each table = omega (arith, image-length (processors table), twice_all table)

-- two numbers written one behind the other
pub two_numbers : (list : List ℕ) (n x y : ℕ) {mid end : List ℕ} → mid ≡ sets list n (four_bytes x) → end ≡ sets mid (n + 4) (four_bytes y)
    → end ≡ sets list n (image (x ∷ y ∷ []))
two_numbers list n x y e g =
    rw (g, e, image_two x y) (sym (rw (four_length x) at (sets_append list n (four_bytes x) (four_bytes y))))

-- ---- the list as bytes is the image of the list of numbers
drop-image : (n : ℕ) (xs : List ℕ) → drop (4 * n) (image xs) ≡ image (drop n xs)
unfolding image four_bytes
drop-image zero xs = refl
drop-image (suc n) [] = let e : 4 * suc n ≡ suc (suc (suc (suc (4 * n)))) = omega arith in rw e
drop-image (suc n) (x ∷ xs) = let e : 4 * suc n ≡ suc (suc (suc (suc (4 * n)))) = omega arith in rw e (drop-image n xs)

pub written-image : (entries list : List ℕ) → written (image entries) (image list) ≡ image (written entries list)
unfolding written
written-image entries list =
    rw (image-length entries, drop-image (length entries) list) (sym (in_bytes.joined entries (drop (length entries) list)))

leb_four : (a b : ℕ) → leb (4 * a) (4 * b) ≡ leb a b
leb_four a b = go (leb a b) refl
  where
    go : (x : Bool) → leb a b ≡ x → leb (4 * a) (4 * b) ≡ leb a b
    go true h = le-leb (4 * a) (4 * b) (let l = leb-true a b h in omega arith) ∙ sym h
    go false h = lt-leb (4 * a) (4 * b) (let l = leb-false a b h in omega arith) ∙ sym h

pub room_image : (entries list : List ℕ) → has_room (image entries) (image list) ≡ has_room entries list
unfolding has_room
room_image entries list = rw (image-length entries, image-length list) (leb_four (length entries) (length list))

if-image : (b : Bool) (xs ys : List ℕ) → if b (image xs) (image ys) ≡ image (if b xs ys)
unfolding if
if-image true xs ys = refl
if-image false xs ys = refl

pub filled-image : (entries list : List ℕ) → filled (image entries) (image list) ≡ image (filled entries list)
unfolding filled
filled-image entries list = rw (room_image entries list, written-image entries list) (if-image _ _ _)
