-- Fields of commands, from outside.
use Rattle.std.proofs.Common.{◌≡◌, ℕ, [], ◌∷◌, refl, true, false, None}
use Rattle.std.specs.Prelude.{map}
use Rattle.check_model.specs.declared.checks.Check.TheVariants.{Endpoint}
use Rattle.check_model.specs.declared.checks.CheckCommand.TheVariants as check_command
use Rattle.block_octets.specs.CidrCommandRecord.TheVariants as cidr_command
use Rattle.block_octets.specs.IpAddressRecord.TheVariants.{V4, V6}
use Rattle.set_fields.specs.RTypeRecord.TheVariants as rtype
use Rattle.set_fields.specs.RoutingRecord.TheVariants as routing
use Rattle.set_fields.specs.BodyRecord.TheVariants as body
use Rattle.command_octets.specs.ActionRecord.TheVariants as action
use Rattle.command_octets.specs.declared.commands.Command.{Command}
use Rattle.command_octets.specs.declared.commands.Command.TheVariants as command
use Rattle.fault_places.specs.Fields.{Field}
use Rattle.fault_places.specs.Fields.Ending.{Sized, Open}
use Rattle.command_faults.specs.Commands.{fields_of, octets_of_command}

-- an endpoint's check of threshold 3: disabled stands in the second version alone
abbrev endpoint : Command
endpoint = command.Health (check_command.Create (Endpoint 3 true false))

pub fields_of_endpoint : map (λ (field : Field). field.octets) (fields_of (2, endpoint))
    ≡ (2 ∷ []) ∷ (4 ∷ []) ∷ (1 ∷ []) ∷ (3 ∷ []) ∷ (1 ∷ []) ∷ (0 ∷ []) ∷ []
fields_of_endpoint = refl

pub fields_of_old : map (λ (field : Field). field.octets) (fields_of (1, endpoint))
    ≡ (1 ∷ []) ∷ (4 ∷ []) ∷ (1 ∷ []) ∷ (3 ∷ []) ∷ (1 ∷ []) ∷ []
fields_of_old = refl

-- 198.51.100.0/24 is put under the location a of collection 1
abbrev put : Command
put = command.Cidr (cidr_command.Change 1 (record {
  put = true;
  location = 0x61 ∷ [];
  blocks = record { address = V4 (198 ∷ 51 ∷ 100 ∷ 0 ∷ []); length = 24 } ∷ [];
} ∷ []))

pub fields_of_put : map (λ (field : Field). field.octets) (fields_of (2, put))
    ≡ (2 ∷ []) ∷ (8 ∷ []) ∷ (0 ∷ 0 ∷ 0 ∷ 1 ∷ []) ∷ (0 ∷ 1 ∷ []) ∷ (1 ∷ []) ∷ (1 ∷ 0x61 ∷ [])
    ∷ (0 ∷ 1 ∷ []) ∷ (4 ∷ []) ∷ (198 ∷ 51 ∷ 100 ∷ 0 ∷ []) ∷ (24 ∷ []) ∷ []
fields_of_put = refl

-- 2001:db8::/32 is taken from it
abbrev taken : Command
taken = command.Cidr (cidr_command.Change 1 (record {
  put = false;
  location = 0x61 ∷ [];
  blocks = record {
    address = V6 (0x20 ∷ 0x01 ∷ 0x0D ∷ 0xB8 ∷ 0 ∷ 0 ∷ 0 ∷ 0 ∷ 0 ∷ 0 ∷ 0 ∷ 0 ∷ 0 ∷ 0 ∷ 0 ∷ 0 ∷ []);
    length = 32;
  } ∷ [];
} ∷ []))

pub fields_of_taken : map (λ (field : Field). field.octets) (fields_of (2, taken))
    ≡ (2 ∷ []) ∷ (8 ∷ []) ∷ (0 ∷ 0 ∷ 0 ∷ 1 ∷ []) ∷ (0 ∷ 1 ∷ []) ∷ (2 ∷ []) ∷ (1 ∷ 0x61 ∷ [])
    ∷ (0 ∷ 1 ∷ []) ∷ (6 ∷ [])
    ∷ (0x20 ∷ 0x01 ∷ 0x0D ∷ 0xB8 ∷ 0 ∷ 0 ∷ 0 ∷ 0 ∷ 0 ∷ 0 ∷ 0 ∷ 0 ∷ 0 ∷ 0 ∷ 0 ∷ 0 ∷ [])
    ∷ (32 ∷ []) ∷ []
fields_of_taken = refl

pub octets_of_taken : octets_of_command (2, taken)
    ≡ 2 ∷ 8 ∷ 0 ∷ 0 ∷ 0 ∷ 1 ∷ 0 ∷ 1 ∷ 2 ∷ 1 ∷ 0x61 ∷ 0 ∷ 1
    ∷ 6 ∷ 0x20 ∷ 0x01 ∷ 0x0D ∷ 0xB8 ∷ 0 ∷ 0 ∷ 0 ∷ 0 ∷ 0 ∷ 0 ∷ 0 ∷ 0 ∷ 0 ∷ 0 ∷ 0 ∷ 0 ∷ 32 ∷ []
octets_of_taken = refl

-- zone 7: a. is made an alias of the root, without its health
abbrev made : Command
made = command.Change (record {
  zone = 7;
  changes = record {
    action = action.Create;
    characters = 0;
    set = record {
      name = (0x61 ∷ []) ∷ [];
      rtype = rtype.A;
      routing = routing.Simple;
      body = body.Alias [] false;
      check = None;
    };
  } ∷ [];
})

pub fields_of_made : map (λ (field : Field). field.octets) (fields_of (2, made))
    ≡ (2 ∷ []) ∷ (3 ∷ []) ∷ (0 ∷ 0 ∷ 0 ∷ 7 ∷ []) ∷ (0 ∷ 1 ∷ []) ∷ (1 ∷ []) ∷ (0 ∷ 0 ∷ 0 ∷ 0 ∷ [])
    ∷ (1 ∷ 0x61 ∷ 0 ∷ []) ∷ (0 ∷ 1 ∷ []) ∷ (0 ∷ []) ∷ (1 ∷ []) ∷ (0 ∷ []) ∷ (0 ∷ []) ∷ (0 ∷ []) ∷ []
fields_of_made = refl

pub endings_of_made : map (λ (field : Field). field.ending) (fields_of (2, made))
    ≡ Sized ∷ Sized ∷ Sized ∷ Sized ∷ Sized ∷ Sized ∷ Open ∷ Sized ∷ Sized ∷ Sized ∷ Open ∷ Sized
    ∷ Sized ∷ []
endings_of_made = refl
