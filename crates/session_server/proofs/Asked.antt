-- What was read of a line.
use Rattle.std.proofs.Common.{◌≡◌, ◌≢◌, ◌∙◌, ℕ, inl, inr, List, Bool, true, false, Option, None, Some, Result, Ok, Err, refl, sym, ap}
use Rattle.std.specs.Prelude.{IfOk}
use Rattle.std.specs.Str.{is_utf8}
use Rattle.std.proofs.lemmas.Option.{none-some}
use Rattle.std.proofs.lemmas.Str.{IsUtf8-from_is_utf8, is_utf8-from_IsUtf8}
use Rattle.line_bounds.specs.Lines.{IsJson, line_of}
use Rattle.line_bounds.specs.LineRecord.{Line}
use Rattle.line_bounds.specs.LineRecord.TheVariants as line
use Rattle.line_bounds.specs.Laws.{ReadCountsAreSome, ReadLinesAreBounded, ReadListsAreAsked}
use Rattle.line_bounds.specs.Laws.{ReadsJson, ReadsOthers}
use Rattle.line_faults.specs.declared.fault.LineFault.{LineFault}
use Rattle.line_faults.specs.declared.fault.LineFault.TheVariants.{BadLine, OutOfMemory, Unsupported}
use Rattle.line_faults.specs.declared.fault.LineReason.TheVariants.{NotJson}
use Rattle.line_faults.specs.declared.member.Member.TheVariants as m
use Rattle.line_reading.specs.Reading.{Gives, bad}
use Rattle.serde_json.specs.Data.{Data}
use Rattle.serde_json.specs.Read.{read}
use Rattle.list_sending.specs.Asking.{Asks}
use Rattle.session_server.specs.Laws.{ReadLinesAsk}
use Rattle.session_server.specs.Taking.{IsWithin}

-- ---- what a line asks for

-- what was read, but for want of memory
is_read : (told wanted : Result Line LineFault) → Gives told wanted → told ≢ Err OutOfMemory
    → told ≡ wanted
is_read (Ok asked) wanted is some = sym is
is_read (Err (BadLine reason member change)) wanted is some = sym is
is_read (Err (Unsupported member change)) wanted is some = sym is
is_read (Err OutOfMemory) wanted is some = absurd (some refl)

-- octets are a JSON value, or none
by_value : (octets : List ℕ) (P : Type 0) → ((value : Data) → IsJson octets value → P)
    → (((value : Data) → IsJson octets value → ⊥) → P) → P
by_value octets P some none = go (is_utf8 octets) (read octets) refl refl
  where
    go : (utf8 : Bool) (found : Option Data) → is_utf8 octets ≡ utf8 → read octets ≡ found → P
    go true (Some value) u f =
        some value (record { utf8 = IsUtf8-from_is_utf8 octets u; is_it = f })
    go true None u f = none (λ value is. none-some value (sym f ∙ is.is_it))
    go false found u f =
        none (λ value is. let both = sym (is_utf8-from_IsUtf8 octets is.utf8) ∙ u in absurd cc)

pub read_asks : ReadLinesAsk
read_asks octets told json others some =
    by_value octets (Asks octets told)
    (λ value is. inl (value, is, is_read told (line_of value) (json value is) some))
    (λ none. inr (none, is_read told (bad NotJson m.Line) (others none) some))

-- ---- its bounds

pub within : ReadLinesAreBounded → ReadListsAreAsked → ReadCountsAreSome → (octets : List ℕ)
    (told : Result Line LineFault) → ReadsJson octets told → ReadsOthers octets told
    → IfOk told IsWithin
within lines lists counts octets (Ok (line.Control given)) json others =
    lines octets (Ok (line.Control given)) given json others refl
within lines lists counts octets (Ok (line.List list)) json others =
    (lists octets (Ok (line.List list)) list json others refl).0
within lines lists counts octets (Ok (line.Status id)) json others = tt
within lines lists counts octets (Ok (line.Observe seen)) json others = tt
within lines lists counts octets (Ok (line.Query asked)) json others = tt
within lines lists counts octets (Ok (line.Bind ports)) json others = tt
within lines lists counts octets (Ok (line.Serve turns)) json others = tt
within lines lists counts octets (Ok (line.Compact pieces)) json others =
    (counts octets (Ok (line.Compact pieces)) pieces json others (inr refl)).0
within lines lists counts octets (Err fault) json others = tt
