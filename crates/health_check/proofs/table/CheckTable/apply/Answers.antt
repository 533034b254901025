use Rattle.std.proofs.Common.{◌≡◌, None, ap, subst}
use Rattle.check_model.specs.declared.checks.CheckCommand.{CheckCommand}
use Rattle.check_model.specs.declared.checks.CheckCommand.TheVariants.{Create, Delete, Update}
use Rattle.check_model.specs.Commands.{delete_refusal, given_by, refusal_of, update_refusal}
use Rattle.health_check.specs.Stored.{Kept}
use Rattle.health_check.proofs.Refusing.{its_there, left_sound, stored_as}
use Rattle.health_check.proofs.table.CheckTable.apply.Goals as goal

pub invariant_of-self : goal.invariant_of-self
invariant_of-self c =
    left_sound c.commands_keep_sound.ensures c.self.inside.next c.self.inside.list.items _ _
    c.self.view_is c.self.invariant c.args.command (Create c.in-Create.check) c.in-Create.is
    c.requires.judged c.requires.bounded c.push_reserved.new.self.items
    c.push_reserved.ensures.items

pub returns-in-Create-clause-sound : goal.returns-in-Create-clause-sound
returns-in-Create-clause-sound c =
    left_sound c.commands_keep_sound.ensures c.self.inside.next c.self.inside.list.items _ _
    c.self.view_is c.self.invariant c.args.command (Create c.in-Create.check) c.in-Create.is
    c.requires.judged c.requires.bounded c.push_reserved.new.self.items
    c.push_reserved.ensures.items

pub update-requires-clause-there : goal.update-requires-clause-there
update-requires-clause-there c =
    let u = c.in-Update in
    let now = c.args.self.now.checks in
    its_there (stored_as c.self.inside.next c.self.inside.list.items) now
    (ap (λ (k : Kept). k.checks) c.self.view_is) u.id
    (update_refusal now u.id (given_by u.inverted u.disabled u.threshold u.children))
    (subst (λ (command : CheckCommand). refusal_of now command ≡ None) u.is c.requires.judged)

pub invariant_of-self-in-Update : goal.invariant_of-self-in-Update
invariant_of-self-in-Update c =
    let u = c.in-Update in
    left_sound c.commands_keep_sound.ensures c.self.inside.next c.self.inside.list.items _ _
    c.self.view_is c.self.invariant c.args.command
    (Update u.id u.inverted u.disabled u.threshold u.children) u.is c.requires.judged
    c.requires.bounded c.update.new.list.items c.update.ensures.items

pub returns-in-Update-clause-sound : goal.returns-in-Update-clause-sound
returns-in-Update-clause-sound c =
    let u = c.in-Update in
    left_sound c.commands_keep_sound.ensures c.self.inside.next c.self.inside.list.items _ _
    c.self.view_is c.self.invariant c.args.command
    (Update u.id u.inverted u.disabled u.threshold u.children) u.is c.requires.judged
    c.requires.bounded c.update.new.list.items c.update.ensures.items

pub delete-requires-clause-there : goal.delete-requires-clause-there
delete-requires-clause-there c =
    let now = c.args.self.now.checks in
    its_there (stored_as c.self.inside.next c.self.inside.list.items) now
    (ap (λ (k : Kept). k.checks) c.self.view_is) c.in-Delete.id
    (λ check. delete_refusal now c.in-Delete.id)
    (subst (λ (command : CheckCommand). refusal_of now command ≡ None) c.in-Delete.is
    c.requires.judged)

pub invariant_of-self-in-Delete : goal.invariant_of-self-in-Delete
invariant_of-self-in-Delete c =
    left_sound c.commands_keep_sound.ensures c.self.inside.next c.self.inside.list.items _ _
    c.self.view_is c.self.invariant c.args.command (Delete c.in-Delete.id) c.in-Delete.is
    c.requires.judged c.requires.bounded c.delete.new.list.items c.delete.ensures.items

pub returns-in-Delete-clause-sound : goal.returns-in-Delete-clause-sound
returns-in-Delete-clause-sound c =
    left_sound c.commands_keep_sound.ensures c.self.inside.next c.self.inside.list.items _ _
    c.self.view_is c.self.invariant c.args.command (Delete c.in-Delete.id) c.in-Delete.is
    c.requires.judged c.requires.bounded c.delete.new.list.items c.delete.ensures.items
