-- Lists and rooms that are lent to a call. Document 01, "What comes back": "In every call, what lies past the written part of a lent
-- list or room stays".
use Rattle.std.specs.Prelude.{Bool, List, ◌++◌, length, drop, nat_le}
use Rattle.words.specs.Choice.{if}

-- a list has room for entries
unfoldable pub has_room : {A : Type 0} → List A → List A → Bool
has_room entries list = nat_le (length entries) (length list)

-- a list with entries written from its front on; "what lies past the written part" stays
unfoldable pub written : {A : Type 0} → List A → List A → List A
written entries list = entries ++ drop (length entries) list

-- the same where there is room; a list that is too short stays as it is
unfoldable pub filled : {A : Type 0} → List A → List A → List A
filled entries list = if (has_room entries list) (written entries list) list
