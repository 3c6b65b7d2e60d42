-- How long a text can be: a line by its word and its numbers, of 20 digits at most, and a list of lines by its length.
use mathlib.Core.Path.{◌≡◌, refl}
use mathlib.Core.List.{List, [], ◌∷◌}
use Prim.Native.Nat.{ℕ, ◌+◌, ◌*◌, ◌≤◌}
use native.Mathlib.Nat.{mul-suc, le_trans, mul-le-mul_left}
use native.Mathlib.Omega.{arith}
use lib.ListN.{length, length-append, length-take, take}
use Rattle.std.specs.Prelude.{Result, Ok, Err}
use Rattle.words.specs.declared.Refusal.{Refusal}
use Rattle.kinds.specs.declared.Half.{Half}
use Rattle.kinds.specs.declared.Lio.{Lio}
use Rattle.kinds.specs.declared.Ht.{Ht}
use Rattle.kinds.specs.declared.Eio.{Eio}
use Rattle.kinds.specs.Used.{said_ht, no_ht}
use Rattle.kinds.specs.declared.Bio.{Bio}
use Rattle.kinds.specs.declared.Msi.{Msi}
use Rattle.kinds.specs.declared.Lpc.{Lpc}
use Rattle.lines.specs.declared.Map.{Map}
use Rattle.lines.specs.declared.Route.{Route}
use Rattle.lines.specs.declared.Route.TheVariants.{Arrives, Unwired, NoOwner}
use Rattle.words.proofs.Choices.{if_cases}
use Rattle.text.specs.Numerals.{letters}
use Rattle.text.specs.Lines.{each, field, phrase, line, version_line, core_line, core_lines, half_line, lio_lines, ht_line, eio_line, bio_line, msi_line, lpc_line, sci_line, places_line, refusal_line}
use Rattle.text.specs.Text.{joined, map_parts, map_text}
use Rattle.text.specs.Rooms.{Fits}
use Rattle.text.proofs.Numerals.{decimal-length}

each-length : {A : Type 0} (f : A → List ℕ) (most : ℕ) → ((x : A) → length (f x) ≤ most) → (xs : List A) → length (each f xs) ≤ most * length xs
unfolding each
each-length f most h [] = omega arith
each-length f most h (x ∷ xs) =
    let one = h x in
    let rest = each-length f most h xs in
    rw mul-suc (omega (arith, length-append (f x) (each f xs)))

field-length : (number : ℕ) → length (field number) ≤ 21
unfolding field
field-length number = let d = decimal-length number in omega arith

phrase-length : (word numbers : List ℕ) → length (phrase word numbers) ≤ length word + 21 * length numbers
unfolding phrase
phrase-length word numbers =
    let behind = each-length field 21 field-length numbers in
    omega (arith, length-append word (each field numbers))

line-length : (word numbers : List ℕ) → length (line word numbers) ≤ length word + 21 * length numbers + 1
unfolding line
line-length word numbers =
    let most = phrase-length word numbers in
    omega (arith, length-append (phrase word numbers) (10 ∷ []))

-- ---- the kinds of lines
version-length : (version : ℕ) → length (version_line version) ≤ 25
unfolding version_line letters
version-length version = line-length (letters "map") (version ∷ [])

core_length : (uid id : ℕ) → length (core_line uid id) ≤ 47
unfolding core_line letters
core_length uid id = line-length (letters "core") (uid ∷ id ∷ [])

cores_length : (list : List ℕ) → 2 * length (core_lines list) ≤ 47 * length list
unfolding core_lines
cores_length [] = omega arith
cores_length (uid ∷ []) = omega arith
cores_length (uid ∷ id ∷ later) =
    let one = core_length uid id in
    let rest = cores_length later in
    omega (arith, length-append (core_line uid id) (core_lines later))

half_length : (half : Half) → length (half_line half) ≤ 46
unfolding half_line letters
half_length half =
    if_cases (λ (l : List ℕ). length l ≤ 46) _ _ _
    (λ t. omega arith)
    (λ t. line-length (letters "lio") (half.cascade ∷ half.mask ∷ []))

lio-length : (lio : Lio) → length (lio_lines lio) ≤ 92
unfolding lio_lines
lio-length lio =
    let low = half_length lio.low in
    let high = half_length lio.high in
    omega (arith, length-append (half_line lio.low) (half_line lio.high))

ht-length : (ht : Ht) → length ht.bytes ≡ 8 → length (ht_line ht) ≤ 171
unfolding ht_line letters
ht-length ht eight =
    if_cases (λ (l : List ℕ). length l ≤ 171) _ _ _
    (λ t. let most = line-length (letters "ht") ht.bytes in omega arith)
    (λ t. omega arith)

-- what is said of an HT has eight bytes too
said_eight : (ht : Ht) → length ht.bytes ≡ 8 → length (said_ht ht).bytes ≡ 8
unfolding said_ht
said_eight ht eight = if_cases (λ (x : Ht). length x.bytes ≡ 8) ht.present ht no_ht (λ t. eight) (λ t. refl)

eio-length : (eio : Eio) → length (eio_line eio) ≤ 67
unfolding eio_line letters
eio-length eio = line-length (letters "eio") (_ ∷ _ ∷ _ ∷ [])

bio-length : (bio : Bio) → length (bio_line bio) ≤ 67
unfolding bio_line letters
bio-length bio = line-length (letters "bio") (_ ∷ _ ∷ _ ∷ [])

msi-length : (msi : Msi) → length (msi_line msi) ≤ 46
unfolding msi_line letters
msi-length msi = line-length (letters "msi") (_ ∷ _ ∷ [])

lpc-length : (lpc : Lpc) → length (lpc_line lpc) ≤ 46
unfolding lpc_line letters
lpc-length lpc =
    if_cases (λ (l : List ℕ). length l ≤ 46) _ _ _
    (λ t. line-length (letters "lpc") (lpc.node ∷ lpc.cascade ∷ []))
    (λ t. omega arith)

sci_length : (sci : ℕ) (route : Result Route Refusal) → length (sci_line sci route) ≤ 67
unfolding sci_line letters
sci_length sci (Ok (Arrives vector number)) = line-length (letters "sci") (sci ∷ vector ∷ number ∷ [])
sci_length sci (Ok Unwired) = omega arith
sci_length sci (Ok NoOwner) = omega arith
sci_length sci (Err refusal) = omega arith

-- ---- the texts
places_length : (place second : ℕ) → length (places_line place second) ≤ 51
unfolding places_line letters
places_length place second =
    if_cases (λ (l : List ℕ). length l ≤ 51) _ _ _
    (λ t. let one = line-length (letters " at") (place ∷ []) in omega arith)
    (λ t.
    let front = phrase-length (letters " at") (place ∷ []) in
    let back = line-length (letters " with") (second ∷ []) in
    omega (arith, length-append (phrase (letters " at") (place ∷ [])) (line (letters " with") (second ∷ []))))

pub refusal_fits : (refusal : Refusal) → Fits 0 (refusal_line refusal)
unfolding refusal_line letters
refusal_fits refusal =
    let front = phrase-length (letters "refused") (refusal.number ∷ []) in
    let back = places_length refusal.place refusal.second in
    omega (arith, length-append (phrase (letters "refused") (refusal.number ∷ [])) (places_line refusal.place refusal.second))

-- some bytes are no more than this
record Most (bytes : List ℕ) (most : ℕ) : Type 0 where
  small : length bytes ≤ most

none_more : Most (joined []) 0
unfolding each
none_more = record { small = omega arith }

and_more : (part : List ℕ) (parts : List (List ℕ)) {most more : ℕ} → length part ≤ most → Most (joined parts) more → Most (joined (part ∷ parts)) (most + more)
unfolding each
and_more part parts {most} {more} h g =
    let rest : length (joined parts) ≤ more = g.small in
    record { small = omega (arith, length-append part (joined parts)) }

four_length : {A : Type 0} (f : A → List ℕ) (most : ℕ) → ((x : A) → length (f x) ≤ most) → (array : List A) (n : ℕ) → length array ≡ 4
    → length (each f (take n array)) ≤ most * 4
four_length f most h array n held =
    le_trans (each-length f most h (take n array)) (mul-le-mul_left most (omega (arith, length-take n array)))

pub map-fits : (version : ℕ) (list : List ℕ) (map : Map) → length list ≤ 512
    → length map.ht.bytes ≡ 8 → length map.eios ≡ 4 → length map.bios ≡ 4 → length map.msis ≡ 4 → Fits 0 (map_text version list map)
unfolding map_text map_parts
map-fits version list map few eight eios bios msis =
    let cores : length (core_lines list) ≤ 12032 = omega (arith, cores_length list) in
    let all : Most (map_text version list map) 13153 =
    and_more _ _ (version-length version)
    (and_more _ _ cores
    (and_more _ _ (lio-length _)
    (and_more _ _ (ht-length (said_ht map.ht) (said_eight map.ht eight))
    (and_more _ _ (four_length eio_line 67 eio-length map.eios map.eiocount eios)
    (and_more _ _ (four_length bio_line 67 bio-length map.bios map.biocount bios)
    (and_more _ _ (four_length msi_line 46 msi-length map.msis map.msicount msis)
    (and_more _ _ (lpc-length _)
    (and_more _ _ (sci_length _ _) none_more)))))))) in
    let most : length (map_text version list map) ≤ 13153 = all.small in
    omega arith
