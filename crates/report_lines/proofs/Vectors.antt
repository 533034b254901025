-- Datagrams that are reports, and some that are none.
use Rattle.std.proofs.Common.{◌≡◌, refl, Some, None, [], ◌∷◌, ◌++◌, codes, true, false}
use Rattle.report_lines.specs.Reports.{report_of}

pub first : report_of (codes "OBS h1 0 0")
    ≡ Some (record { id = 1; checker = 0; pass = false })
unfolding report_of
first = refl

-- a line feed at the end, the last checker
pub with_feed : report_of (codes "OBS h204 49 1" ++ 0x0A ∷ [])
    ≡ Some (record { id = 204; checker = 49; pass = true })
unfolding report_of
with_feed = refl

-- two line feeds
pub two_feeds : report_of (codes "OBS h1 0 0" ++ 0x0A ∷ 0x0A ∷ []) ≡ None
unfolding report_of
two_feeds = refl

-- a checker behind the last
pub checker_50 : report_of (codes "OBS h1 50 0") ≡ None
unfolding report_of
checker_50 = refl

-- zeros in front
pub zero_in_front : report_of (codes "OBS h1 07 0") ≡ None
unfolding report_of
zero_in_front = refl

pub zero_in_id : report_of (codes "OBS h01 7 0") ≡ None
unfolding report_of
zero_in_id = refl

-- no check has number 0
pub check_0 : report_of (codes "OBS h0 7 0") ≡ None
unfolding report_of
check_0 = refl

-- the number behind the last that a check may have, and that one
pub behind_last : report_of (codes "OBS h4294967295 7 0") ≡ None
unfolding report_of
behind_last = refl

pub last : report_of (codes "OBS h4294967294 7 0")
    ≡ Some (record { id = 4294967294; checker = 7; pass = false })
unfolding report_of
last = refl

-- two spaces, a space at the end, a field too few, small letters
pub two_spaces : report_of (codes "OBS  h1 7 0") ≡ None
unfolding report_of
two_spaces = refl

pub space_at_end : report_of (codes "OBS h1 7 0 ") ≡ None
unfolding report_of
space_at_end = refl

pub field_too_few : report_of (codes "OBS h1 7") ≡ None
unfolding report_of
field_too_few = refl

pub small_letters : report_of (codes "obs h1 7 0") ≡ None
unfolding report_of
small_letters = refl

pub nothing : report_of [] ≡ None
unfolding report_of
nothing = refl
