-- What a connection that is gone gives: nothing.
use Rattle.std.proofs.Common.{◌≡◌, ℕ, Bool, true, false, eqb, cond, List, [], ◌∷◌, ◌++◌, slice_get, Some, refl, sym, ap, ◌∙◌}
use Rattle.std.proofs.lemmas.Bool.{eqb-true}
use Rattle.ipc_terms.specs.declared.call.Answer.{Answer}
use Rattle.ipc_hub.specs.Hub.{Connection, Hub, IsGone, Takes, untaken, spell_answers}
use Rattle.ipc_hub.specs.Laws.{Call, Opened, TookPiece, HungUp, Gave, Named, Ticked, Forgot, MakesAll, output_of}
use Rattle.ipc_hub.proofs.GoneLemmas.{stays_gone}

gave_nothing : (old new : Hub) (j i : ℕ) (bytes : List ℕ) → Takes old j bytes new → eqb j i ≡ true → IsGone old i → bytes ≡ []
gave_nothing old new j i bytes t is g =
    let same : Some t.before ≡ Some g.connection = sym t.changes.was ∙ ap (λ (k : ℕ). slice_get old.connections k) (eqb-true j i is) ∙ g.there in
    let it : t.before ≡ g.connection = cc in
    let spelled : Some [] ≡ Some bytes = sym (ap (λ (x : Connection). spell_answers (untaken old.core x)) it ∙ ap (λ (xs : List Answer). spell_answers xs) g.nothing) ∙ t.given in
    cc

none_both : (here : Bool) (xs ys : List ℕ) → (here ≡ true → xs ≡ []) → ys ≡ [] → cond here (xs ++ ys) ys ≡ []
none_both true xs ys first rest = ap (λ (zs : List ℕ). zs ++ ys) (first refl) ∙ rest
none_both false xs ys first rest = rest

pub gives_nothing : (calls : List Call) (old new : Hub) (i : ℕ) → MakesAll calls old new → IsGone old i → output_of i calls ≡ []
gives_nothing [] old new i made g = refl
gives_nothing (Opened ∷ calls) old new i made g = gives_nothing calls made.0 new i made.1.1 (stays_gone (Opened ∷ []) old made.0 i (made.0, (made.1.0, refl)) g)
gives_nothing (TookPiece j piece fed ∷ calls) old new i made g = gives_nothing calls made.0 new i made.1.1 (stays_gone (TookPiece j piece fed ∷ []) old made.0 i (made.0, (made.1.0, refl)) g)
gives_nothing (HungUp j ∷ calls) old new i made g = gives_nothing calls made.0 new i made.1.1 (stays_gone (HungUp j ∷ []) old made.0 i (made.0, (made.1.0, refl)) g)
gives_nothing (Gave j bytes ∷ calls) old new i made g = none_both (eqb j i) bytes (output_of i calls) (λ is. gave_nothing old made.0 j i bytes made.1.0 is g) (gives_nothing calls made.0 new i made.1.1 (stays_gone (Gave j bytes ∷ []) old made.0 i (made.0, (made.1.0, refl)) g))
gives_nothing (Named j ∷ calls) old new i made g = gives_nothing calls made.0 new i made.1.1 (stays_gone (Named j ∷ []) old made.0 i (made.0, (made.1.0, refl)) g)
gives_nothing (Ticked moment ∷ calls) old new i made g = gives_nothing calls made.0 new i made.1.1 (stays_gone (Ticked moment ∷ []) old made.0 i (made.0, (made.1.0, refl)) g)
gives_nothing (Forgot ∷ calls) old new i made g = gives_nothing calls made.0 new i made.1.1 (stays_gone (Forgot ∷ []) old made.0 i (made.0, (made.1.0, refl)) g)
