-- Parts of a text, as marks part it.
use Rattle.std.specs.Prelude.{ℕ, ◌+◌, List, [], take, drop, Option, None, Some}
use Rattle.prefix_text.specs.Marks.{place_of}

-- what stands before a place, where there is one, else all
abbrev pub front_of : (place : Option ℕ) → List ℕ → List ℕ
front_of None text = text
front_of (Some at) text = take at text

-- what stands behind it, else nothing
abbrev pub rest_of : (place : Option ℕ) → List ℕ → List ℕ
rest_of None text = []
rest_of (Some at) text = drop (at + 1) text

-- what stands before the first separator
abbrev pub before : (separator : ℕ) → List ℕ → List ℕ
before separator text = front_of (place_of separator text) text

-- what stands behind the first separator
abbrev pub behind : (separator : ℕ) → List ℕ → List ℕ
behind separator text = rest_of (place_of separator text) text
