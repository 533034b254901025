-- What a line asks for is within its bounds, and its lists are short.
use Rattle.std.proofs.Common.{◌≡◌, ℕ, inl, inr, List, Bool, true, false, Option, None, Some, Result, Ok, Err, refl, subst, sym, ◌∙◌}
use Rattle.std.specs.Prelude.{⊤}
use Rattle.std.specs.Str.{is_utf8}
use Rattle.std.proofs.lemmas.Option.{none-some}
use Rattle.std.proofs.lemmas.Str.{IsUtf8-from_is_utf8, is_utf8-from_IsUtf8}
use Rattle.batch_json.specs.Lines.{IsJson, check_line, check_of, collection_line, line_named, line_of, named_or, one_member, or_next, serving_line, update_of}
use Rattle.batch_json.specs.Lines.{zone_line, zone_of}
use Rattle.batch_json.specs.declared.asking.Line.{Line}
use Rattle.batch_json.specs.declared.asking.Line.TheVariants as line
use Rattle.check_lines.specs.Checks.{create_health_check, delete_health_check, get_health_check_status, observe, update_health_check}
use Rattle.check_model.specs.declared.checks.CheckCommand.TheVariants.{Delete}
use Rattle.batch_json.specs.Collections.{change_collection, create_collection, delete_collection}
use Rattle.command_bounds.specs.Laws.{HasShortLists}
use Rattle.batch_json.specs.CommandRecord.TheVariants as command
use Rattle.command_bounds.specs.LawsOfConfigModel.{IsBounded}
use Rattle.dns_name.specs.Laws.{TextsReadAsNames}
use Rattle.line_faults.specs.Texts.{text_of}
use Rattle.line_faults.specs.declared.fault.LineFault.{LineFault}
use Rattle.line_faults.specs.declared.fault.LineReason.TheVariants.{NotJson, UnknownLine}
use Rattle.line_faults.specs.declared.member.Member.{Member}
use Rattle.line_faults.specs.declared.member.Member.TheVariants as m
use Rattle.line_reading.specs.Reading.{◌>>=◌, Gives, bad}
use Rattle.query_lines.specs.Queries.{bind, compact, query, serve}
use Rattle.serde_json.specs.Data.{Data}
use Rattle.serde_json.specs.Find.{as_object, get}
use Rattle.serde_json.specs.Read.{read}
use Rattle.batch_json.specs.ChangeLines.{change_sets}
use Rattle.zone_lines.specs.Zones.{create_hosted_zone, delete_hosted_zone, list_sets}
use Rattle.line_bounds.proofs.Batches.{batch_is}
use Rattle.line_bounds.proofs.Checks.{check_is, update_is}
use Rattle.line_bounds.proofs.Collections.{creation_is, edit_is, end_is}
use Rattle.line_bounds.proofs.Lists.{IsCount, IsList, list_is, pieces_are, turns_are}
use Rattle.line_bounds.proofs.Steps.{same_ok, steps}
use Rattle.line_bounds.proofs.Zones.{zone_is}
use Rattle.line_bounds.specs.Laws.{LinesAreBounded, ReadCountsAreSome, ReadLinesAreBounded, ReadListsAreAsked}
use Rattle.line_bounds.specs.Laws.{TextsArePrefixes, TextsAreValues}

-- ---- what lines ask for

abbrev IsBoundedLine : Line → Type 0
IsBoundedLine (line.Control given) = IsBounded given × HasShortLists given
IsBoundedLine (line.List list) = IsList list
IsBoundedLine (line.Status id) = ⊤
IsBoundedLine (line.Observe seen) = ⊤
IsBoundedLine (line.Query asked) = ⊤
IsBoundedLine (line.Bind ports) = ⊤
IsBoundedLine (line.Serve turns) = IsCount turns
IsBoundedLine (line.Compact pieces) = IsCount pieces

-- ---- a line by its name

abbrev Found : Type 0
Found = Result (Option Line) LineFault

abbrev HasBounds : Found → Type 0
HasBounds found = (asked : Line) → found ≡ Ok (Some asked) → IsBoundedLine asked

told : {A : Type 0} (read : Result A LineFault) (tells : A → Line)
    → ((a : A) → read ≡ Ok a → IsBoundedLine (tells a)) → HasBounds (read >>= λ a. Ok (Some (tells a)))
told read tells has asked e =
    let s = steps read (λ a. Ok (Some (tells a))) (Some asked) e in
    let same : tells s.value ≡ asked = (let g = s.gives in cc) in
    subst IsBoundedLine same (has s.value s.is)

nothing : HasBounds (Ok None)
nothing asked e = absurd cc

named : (name : Member) (o : Data) (reads : Data → Found) (other : Found)
    → ((d : Data) → HasBounds (reads d)) → HasBounds other → HasBounds (named_or name o reads other)
named name o reads other has rest asked e = go (get (text_of name) o) refl
  where
    go : (found : Option Data) → get (text_of name) o ≡ found → IsBoundedLine asked
    go None g = rest asked (rw g at e)
    go (Some d) g = has d asked (rw g at e)

module _ (names : TextsReadAsNames) (values : TextsAreValues) (prefixes : TextsArePrefixes) where
  zones_have : (o : Data) → HasBounds (zone_line o)
  unfolding zone_line
  zones_have o =
      named m.CreateHostedZone o _ _
      (λ d. told (create_hosted_zone d) (λ zone. line.Control (zone_of zone))
      (λ zone r. let z = zone_is names d zone r in ((z.name, z.servers.0, z.servers.1), tt)))
      (named m.DeleteHostedZone o _ _
      (λ d. told (delete_hosted_zone d) (λ id. line.Control (command.DeleteZone id))
      (λ id r. (tt, tt)))
      (named m.ChangeResourceRecordSets o _ _
      (λ d. told (change_sets d) (λ batch. line.Control (command.Change batch))
      (λ batch r. (batch_is names values d batch r, tt)))
      (named m.ListResourceRecordSets o _ _
      (λ d. told (list_sets d) (λ list. line.List list) (list_is d)) nothing)))

  checks_have : (o : Data) → HasBounds (check_line o)
  unfolding check_line
  checks_have o =
      named m.CreateHealthCheck o _ _
      (λ d. told (create_health_check d) (λ check. line.Control (command.Health (check_of check)))
      (λ check r. (check_is d check r, tt)))
      (named m.UpdateHealthCheck o _ _
      (λ d. told (update_health_check d)
      (λ update. line.Control (command.Health (update_of update)))
      (λ update r. (update_is d update r, tt)))
      (named m.DeleteHealthCheck o _ _
      (λ d. told (delete_health_check d) (λ id. line.Control (command.Health (Delete id)))
      (λ id r. (tt, tt)))
      (named m.GetHealthCheckStatus o _ _
      (λ d. told (get_health_check_status d) (λ id. line.Status id) (λ id r. tt))
      (named m.Observe o _ _ (λ d. told (observe d) (λ seen. line.Observe seen) (λ seen r. tt))
      nothing))))

  collections_have : (o : Data) → HasBounds (collection_line o)
  unfolding collection_line
  collections_have o =
      named m.CreateCidrCollection o _ _
      (λ d. told (create_collection d) (λ cidr. line.Control (command.Cidr cidr))
      (λ cidr r. creation_is prefixes d cidr r))
      (named m.ChangeCidrCollection o _ _
      (λ d. told (change_collection d) (λ cidr. line.Control (command.Cidr cidr))
      (λ cidr r. edit_is prefixes d cidr r))
      (named m.DeleteCidrCollection o _ _
      (λ d. told (delete_collection d) (λ cidr. line.Control (command.Cidr cidr))
      (λ cidr r. end_is prefixes d cidr r)) nothing))

  serving_has : (o : Data) → HasBounds (serving_line o)
  unfolding serving_line
  serving_has o =
      named m.Query o _ _ (λ d. told (query d) (λ asked. line.Query asked) (λ asked r. tt))
      (named m.Bind o _ _ (λ d. told (bind d) (λ ports. line.Bind ports) (λ ports r. tt))
      (named m.Serve o _ _ (λ d. told (serve d) (λ turns. line.Serve turns) (turns_are d))
      (named m.Compact o _ _
      (λ d. told (compact d) (λ pieces. line.Compact pieces) (pieces_are d)) nothing)))

  -- ---- a line

  or_else : (first : Found) (next : Result Line LineFault) → HasBounds first
      → ((asked : Line) → next ≡ Ok asked → IsBoundedLine asked) → (asked : Line)
      → or_next first next ≡ Ok asked → IsBoundedLine asked
  or_else (Ok (Some l)) next has rest asked e =
      subst IsBoundedLine (same_ok l asked e) (has l refl)
  or_else (Ok None) next has rest asked e = rest asked e
  or_else (Err fault) next has rest asked e = absurd cc

  line_has : (o : Data) (asked : Line) → line_named o ≡ Ok asked → IsBoundedLine asked
  unfolding line_named
  line_has o =
      or_else (zone_line o) _ (zones_have o)
      (or_else (check_line o) _ (checks_have o)
      (or_else (collection_line o) _ (collections_have o)
      (or_else (serving_line o) (bad UnknownLine m.Line) (serving_has o)
      (λ asked e. absurd cc))))

  pub has_bounds : (value : Data) (asked : Line) → line_of value ≡ Ok asked → IsBoundedLine asked
  unfolding line_of
  has_bounds value asked e =
      let s = steps (one_member (as_object value)) _ asked e in
      line_has value asked s.gives

  pub are_bounded : LinesAreBounded
  are_bounded value given e = has_bounds value (line.Control given) e

-- ---- what was read from octets

-- octets are a value, or none
by_value : (octets : List ℕ) (P : Type 0) → ((value : Data) → IsJson octets value → P)
    → (((value : Data) → IsJson octets value → ⊥) → P) → P
by_value octets P some none = go (is_utf8 octets) (read octets) refl refl
  where
    go : (utf8 : Bool) (found : Option Data) → is_utf8 octets ≡ utf8 → read octets ≡ found → P
    go true (Some value) u f =
        some value (record { utf8 = IsUtf8-from_is_utf8 octets u; is_it = f })
    go true None u f = none (λ value is. none-some value (sym f ∙ is.is_it))
    go false found u f =
        none (λ value is. let both = sym (is_utf8-from_IsUtf8 octets is.utf8) ∙ u in absurd cc)

not_there : (told : Result Line LineFault) (asked : Line) → told ≡ Ok asked
    → Gives told (bad NotJson m.Line) → ⊥
not_there (Ok other) asked e h = absurd cc
not_there (Err fault) asked e h = absurd cc

-- what every line has that a JSON value gives, has the line that was read
of_a_value : (octets : List ℕ) (told : Result Line LineFault) (asked : Line) (P : Type 0)
    → ((value : Data) → line_of value ≡ Ok asked → P)
    → ((value : Data) → IsJson octets value → Gives told (line_of value))
    → (((value : Data) → IsJson octets value → ⊥) → Gives told (bad NotJson m.Line))
    → told ≡ Ok asked → P
of_a_value octets told asked P has json not_json e =
    by_value octets P
    (λ value is. has value (subst (λ r. Gives r (line_of value)) e (json value is)))
    (λ none. absurd (not_there told asked e (not_json none)))

pub read_are_bounded : LinesAreBounded → ReadLinesAreBounded
read_are_bounded law octets told given json not_json e =
    of_a_value octets told (line.Control given) (IsBounded given × HasShortLists given)
    (λ value r. law value given r) json not_json e

module _ (names : TextsReadAsNames) (values : TextsAreValues) (prefixes : TextsArePrefixes) where
  pub lists_are_asked : ReadListsAreAsked
  lists_are_asked octets told list json not_json e =
      of_a_value octets told (line.List list) (IsList list)
      (λ value r. has_bounds names values prefixes value (line.List list) r) json not_json e

  pub counts_are_some : ReadCountsAreSome
  counts_are_some octets told count json not_json (inl e) =
      of_a_value octets told (line.Serve count) (IsCount count)
      (λ value r. has_bounds names values prefixes value (line.Serve count) r) json not_json e
  counts_are_some octets told count json not_json (inr e) =
      of_a_value octets told (line.Compact count) (IsCount count)
      (λ value r. has_bounds names values prefixes value (line.Compact count) r) json not_json e
