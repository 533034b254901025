-- The two sets of a new zone are made of names and values as sets are.
use Rattle.std.proofs.Common.{◌≡◌, ℕ, Bool, true, ◌+◌, ◌<◌, ◌≤◌, List, [], ◌∷◌, ◌++◌, length, map, refl, sym, arith}
use Rattle.std.specs.Prelude.{◌&&◌, codes, nat_lt}
use Rattle.std.specs.List.{AllByRecursion}
use Rattle.std.proofs.lemmas.Bool.{and_parts, ltb-true}
use Rattle.std.proofs.lemmas.List.{append-nil, length-append}
use Rattle.set_reading.specs.Labels.{wire}
use Rattle.set_reading.specs.Names.{IsName, AreOctets}
use Rattle.octets.specs.Numbers.{four_octets}
use Rattle.set_reading.specs.Datum.{Datum}
use Rattle.set_reading.specs.Layout.{IsLayout}
use Rattle.set_reading.specs.RTypeRecord.TheVariants.{Ns, Soa}
use Rattle.set_reading.specs.Values.{IsInLayout}
use Rattle.set_reading.specs.Sets.{IsSet}
use Rattle.config_model.specs.NewZones.{first_server, hostmaster, new_ns_set, new_soa_set}
use Rattle.config_model.specs.NewZones.{server_value, soa_value}

-- ---- the mailbox of whoever looks after a zone

abbrev are_octets : List ℕ → Bool
are_octets [] = true
are_octets (x ∷ xs) = nat_lt x 256 && are_octets xs

octets_so : (xs : List ℕ) → are_octets xs ≡ true → AreOctets xs
octets_so [] e = tt
octets_so (x ∷ xs) e =
    let both = and_parts (nat_lt x 256) (are_octets xs) e in
    (ltb-true x 256 both.0, octets_so xs both.1)

hostmaster_is_name : IsName hostmaster
hostmaster_is_name = record {
  raw = record {
    each = (
      record { filled = omega arith; short = omega arith },
      (
        record { filled = omega arith; short = omega arith },
        (record { filled = omega arith; short = omega arith }, tt),
      ),
    );
    fits = omega arith;
  };
  lower = (refl, (refl, (refl, tt)));
  octets = (
    octets_so (codes "awsdns-hostmaster") refl,
    (
      octets_so (codes "amazon") refl,
      (octets_so (codes "com") refl, tt),
    ),
  );
}

-- ---- values

server_is_value : (server : List (List ℕ)) → IsName server → IsInLayout (server_value server)
server_is_value server name = record {
  short = let fits = name.raw.fits in omega (arith, fits);
  fields = (wire server, [], (server, name, refl), sym (append-nil (wire server)), refl);
}

servers_are_values : (servers : List (List (List ℕ))) → AllByRecursion IsName servers
    → AllByRecursion IsInLayout (map server_value servers)
servers_are_values [] names = tt
servers_are_values (server ∷ servers) names =
    (server_is_value server names.0, servers_are_values servers names.1)

abbrev numbers : List ℕ
numbers = four_octets 1 ++ (four_octets 7200 ++ (four_octets 900 ++ (four_octets 1209600
    ++ four_octets 86400)))

soa_is_value : (server : List (List ℕ)) → IsName server → IsInLayout (soa_value server)
soa_is_value server name = record {
  short = let size = length-append (wire server) (wire hostmaster ++ numbers) in
      let fits = name.raw.fits in omega (arith, size, fits);
  fields = (
    wire server,
    wire hostmaster ++ numbers,
    (server, name, refl),
    refl,
    (
      wire hostmaster,
      numbers,
      (hostmaster, hostmaster_is_name, refl),
      refl,
      (
        four_octets 1,
        four_octets 7200 ++ (four_octets 900 ++ (four_octets 1209600
            ++ four_octets 86400)),
        refl,
        refl,
        (
          four_octets 7200,
          four_octets 900 ++ (four_octets 1209600 ++ four_octets 86400),
          refl,
          refl,
          (
            four_octets 900,
            four_octets 1209600 ++ four_octets 86400,
            refl,
            refl,
            (
              four_octets 1209600,
              four_octets 86400,
              refl,
              refl,
              (four_octets 86400, [], refl, refl, refl),
            ),
          ),
        ),
      ),
    ),
  );
}

first_is_name : (servers : List (List (List ℕ))) → AllByRecursion IsName servers
    → length servers ≡ 4 → IsName (first_server servers)
first_is_name [] names four = absurd (omega (arith, four))
first_is_name (server ∷ servers) names four = names.0

-- ---- sets

module _ (apex : List (List ℕ)) (servers : List (List (List ℕ))) (name : IsName apex)
    (names : AllByRecursion IsName servers) where
  pub ns_parts : IsSet (new_ns_set apex servers)
  ns_parts = record { name = name; routing = tt; body = servers_are_values servers names }

  pub soa_parts : length servers ≡ 4 → IsSet (new_soa_set apex servers)
  soa_parts four = record {
    name = name;
    routing = tt;
    body = (soa_is_value (first_server servers) (first_is_name servers names four), tt);
  }
