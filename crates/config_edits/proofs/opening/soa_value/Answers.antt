use Rattle.std.proofs.Common.{◌≡◌, ℕ, List, ◌++◌, ap, ◌∙◌, sym, subst}
use Rattle.octets.specs.Numbers.{four_octets}
use Rattle.dns_name.specs.Labels.{wire}
use Rattle.config_model.specs.Layout.{IsLayout}
use Rattle.config_model.specs.RTypeRecord.TheVariants.{Soa}
use Rattle.config_model.specs.NewZones.{hostmaster, soa_value}
use Rattle.config_edits.proofs.Values.{soa_layout, told}
use Rattle.config_edits.proofs.opening.soa_value.Goals as goal

abbrev behind : List ℕ
behind = wire hostmaster ++ (four_octets 1 ++ (four_octets 7200 ++ (four_octets 900
    ++ (four_octets 1209600 ++ four_octets 86400))))

pub value_of-requires : goal.value_of-requires
value_of-requires c =
    let written = c.as_slice.ensures.value
    ∙ (c.in_ok-extend_from_slice-2.ensures.items
    ∙ ap (λ (l : List ℕ). l ++ behind)
    (c.in_ok-extend_from_slice.ensures.items
    ∙ (ap (λ (l : List ℕ). l ++ c.octets.result.now) c.in_ok-octets.ensures.items
    ∙ c.octets.ensures.spelled))) in
    subst (λ (l : List ℕ). IsLayout Soa l) (sym written)
    (soa_layout c.args.server.now c.octets.ensures.name)

pub returns : goal.returns
returns c =
    let written = c.as_slice.ensures.value
    ∙ (c.in_ok-extend_from_slice-2.ensures.items
    ∙ ap (λ (l : List ℕ). l ++ behind)
    (c.in_ok-extend_from_slice.ensures.items
    ∙ (ap (λ (l : List ℕ). l ++ c.octets.result.now) c.in_ok-octets.ensures.items
    ∙ c.octets.ensures.spelled))) in
    told c.args.server.now c.as_slice.result.now written c.value_of.result c.value_of.ensures
