use Rattle.std.proofs.Common.{Some, is_some, sym, ap, ◌∙◌}
use Rattle.ipc_policy.proofs.Directories.Bindings.{bound_made}
use Rattle.std.specs.Option.{option_map}
use Rattle.ipc_tables.specs.declared.rows.ObjectRow.{ObjectRow}
use Rattle.ipc_names.specs.Directory.{Directory}
use Rattle.ipc_state.proofs.Lookups.{directory_agrees}
use Rattle.ipc_state.proofs.Changed.{agrees_in_directory, agrees_in_object, changed_bound, named_by_change, facts_meant_is}
use Rattle.ipc_state.proofs.changing.accept_change.Goals as goal

pub unreachable-requires : goal.unreachable-requires
unreachable-requires c =
    let some = changed_bound c.args.config.now c.args.past.now.history c.args.sid c.args.call.now c.in-Name.field-0 c.in-Name.field-1 (c.requires.changes ∙ ap Some c.in-Name.is) c.requires.accepted in
    let none = ap is_some (sym (named_by_change c.args.past.now.history c.args.sid c.args.call.now c.in-Name.field-0 c.in-Name.field-1 (c.requires.changes ∙ ap Some c.in-Name.is)) ∙ sym c.requires.bound ∙ c.in_default.is) in
    cc

pub unreachable-requires-in_default-facts_in : goal.unreachable-requires-in_default-facts_in
unreachable-requires-in_default-facts_in c =
    let is = sym (named_by_change c.args.past.now.history c.args.sid c.args.call.now c.in-Name.field-0 c.in-Name.field-1 (c.requires.changes ∙ ap Some c.in-Name.is)) ∙ sym c.requires.bound ∙ c.in-Some.is in
    let some = (bound_made c.args.config.now c.args.past.now.history c.in-Name.field-0 c.in-Name.field-1 c.in-Some.object c.requires.core.legal is).1 in
    let none = ap is_some (facts_meant_is c.args.config.now c.args.past.now.history c.args.tables.now c.in-Name.field-0 c.in-Name.field-1 c.in-Some.object _ c.requires.core is (c.facts_in.ensures ∙ ap (option_map (λ (r : ObjectRow). r.facts)) c.object.ensures) ∙ c.in_default-facts_in.is) in
    cc

pub returns-in-Dir : goal.returns-in-Dir
returns-in-Dir c =
    let was = c.facts-was.ensures ∙ ap (λ (d : Directory). d.facts) c.names.ensures ∙ (directory_agrees c.args.config.now c.args.past.now.history c.args.tables.now c.in-Dir.family c.requires.core.agrees).facts in
    rw (c.set_facts.ensures, c.changed.ensures, was) (agrees_in_directory c.args.config.now c.args.past.now.history c.args.tables.now c.args.sid c.args.call.now c.in-Dir.family (c.requires.changes ∙ ap Some c.in-Dir.is) c.requires.core.agrees)

pub returns-in-Some-facts_in : goal.returns-in-Some-facts_in
returns-in-Some-facts_in c =
    let is = sym (named_by_change c.args.past.now.history c.args.sid c.args.call.now c.in-Name.field-0 c.in-Name.field-1 (c.requires.changes ∙ ap Some c.in-Name.is)) ∙ sym c.requires.bound ∙ c.in-Some.is in
    let at = facts_meant_is c.args.config.now c.args.past.now.history c.args.tables.now c.in-Name.field-0 c.in-Name.field-1 c.in-Some.object _ c.requires.core is (c.facts_in.ensures ∙ ap (option_map (λ (r : ObjectRow). r.facts)) c.object.ensures) ∙ c.in-Some-facts_in.is in
    rw (c.set_facts-in-Name.ensures, c.changed-in-Name.ensures) (agrees_in_object c.args.config.now c.args.past.now.history c.args.tables.now c.args.sid c.args.call.now c.in-Name.field-0 c.in-Name.field-1 c.in-Some.object c.in-Some-facts_in.was (c.requires.changes ∙ ap Some c.in-Name.is) is at c.requires.core.agrees)
