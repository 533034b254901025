-- The texts of names, by what they spell (RFC 1035, 5.1; FORMATS, Texts of names).
use Rattle.std.specs.Prelude.{◌≡◌, ℕ, ◌⊎◌, List, [], ◌∷◌, ◌++◌}
use Rattle.std.specs.List.{AllZip, flat_map}
use Rattle.dns_name.specs.Labels.{IsRawName}
use Rattle.text_meanings.specs.Characters.{dot, IsCharacter, AreCharacters}

-- A text spells a label: the characters of its octets, one after another.
abbrev pub SpellsLabel : (text label : List ℕ) → Type 0
SpellsLabel text label = AreCharacters IsCharacter text label

-- texts with a byte between each two
abbrev pub between : (b : ℕ) → List (List ℕ) → List ℕ
between b [] = []
between b (text ∷ texts) = text ++ flat_map (λ next. b ∷ next) texts

-- A text spells labels: their texts with a dot between each two, and at the end one more dot or
-- none.
pub record SpellsLabels (text : List ℕ) (labels : List (List ℕ)) : Type 0 where
  pub texts : List (List ℕ)
  pub each : AllZip SpellsLabel texts labels
  pub together : (text ≡ between dot texts) ⊎ (text ≡ between dot texts ++ dot ∷ [])

-- A text spells these labels, in either case. The root's text is a dot alone.
abbrev pub SpellsName : (text : List ℕ) (labels : List (List ℕ)) → Type 0
SpellsName text [] = text ≡ dot ∷ []
SpellsName text (label ∷ labels) = SpellsLabels text (label ∷ labels)

-- The text of a name: what it spells has labels of 1 to 63 octets, and 255 in all on the wire.
pub record IsTextOf (text : List ℕ) (labels : List (List ℕ)) : Type 0 where
  pub spelled : SpellsName text labels
  pub name : IsRawName labels

-- Some name's text begins with these bytes.
abbrev pub GoesOn : (front : List ℕ) → Type 0
GoesOn front = (more : List ℕ) × (labels : List (List ℕ)) × IsTextOf (front ++ more) labels
