use Rattle.std.proofs.Common.{◌≡◌, ℕ, List, Some, slice_get, sym, ap, subst, ◌∙◌}
use Rattle.ipc_terms.specs.declared.ids.Family.TheVariants.{Mq, Sem}
use Rattle.ipc_access.specs.declared.users.User.{User}
use Rattle.ipc_descr.specs.Charges.{limit_of}
use Rattle.ipc_policy.specs.declared.config.Config.{Config}
use Rattle.ipc_state.specs.Agrees.{IsCore}
use Rattle.ipc_living.specs.Rows.{limit_carried}
use Rattle.ipc_living.proofs.Lifting.{names_alike, facts_alike, limits_alike, both_directories}
use Rattle.ipc_living.proofs.comparing.same_living.Goals as goal

pub returns : goal.returns
returns c = λ yes.
    let k = c.args.old.now.config in
    let h = c.args.old.now.history in
    let k' = c.args.new.now.config in
    let h' = c.args.new.now.history in
    let a = c.tables-a.result.now in
    let b = c.tables-b.result.now in
    let core : IsCore k h a = c.tables-a.ensures in
    let core' : IsCore k' h' b = c.tables-b.ensures in
    let first = c.same_names.ensures h h' c.requires.old c.requires.new c.if-not-same_names.false in
    let second = c.same_names-2.ensures h h' c.requires.old c.requires.new yes in
    record {
      queues = names_alike k h a k' h' b Mq core core' first;
      semaphores = names_alike k h a k' h' b Sem core core' second;
      directories = both_directories h h' (facts_alike k h a k' h' b Mq core core' first) (facts_alike k h a k' h' b Sem core core' second);
      limits = limits_alike k h a k' h' b core core' (subst (λ (us : List User). (i : ℕ) (user : User) → slice_get us i ≡ Some user → limit_carried k.users a.charges us user.cred.uid ≡ limit_of b.charges user.cred.uid.0) (ap (λ (z : Config). z.users) c.config-2.ensures)
          (subst (λ (us : List User). (i : ℕ) (user : User) → slice_get c.config-2.result.now.users i ≡ Some user → limit_carried us a.charges c.config-2.result.now.users user.cred.uid ≡ limit_of b.charges user.cred.uid.0) (ap (λ (z : Config). z.users) c.config.ensures) (c.same_limits.ensures c.if-not-same_limits.false)));
      times = sym c.time.ensures ∙ c.if-time.false ∙ c.time-2.ensures;
      nobody = c.is_empty.ensures c.if-not-is_empty.false;
    }
