-- A stream is cut alike however its pieces came.
use Rattle.std.proofs.Common.{◌≡◌, Bool, List, [], ◌∷◌, ◌++◌, refl, sym, ap, ◌∙◌, append_assoc}
use Rattle.ipc_wire.specs.declared.request.Request.{Request}
use Rattle.ipc_wire.specs.Streams.{Cut, cut, after, still_first}
use Rattle.ipc_wire.proofs.CutLemmas.{cuts_alike}
use Rattle.ipc_hub.specs.Laws.{CutAnyWay}

first_still : (first : Bool) (ps qs : List Request) → still_first first (ps ++ qs) ≡ still_first (still_first first ps) qs
first_still first [] qs = refl
first_still first (p ∷ ps) [] = refl
first_still first (p ∷ ps) (q ∷ qs) = refl

pub after_both : (ps qs : List Request) (c : Cut) → after (ps ++ qs) c ≡ after ps (after qs c)
after_both ps qs c = ap (λ (x : List Request). record { requests = x; rest = c.rest; fault = c.fault }) (append_assoc ps qs c.requests)

pub cut_any_way : CutAnyWay
cut_any_way first w r v qs e =
    let d = cut (still_first first qs) r in
    let whole : cut first (w ++ v) ≡ after (qs ++ d.requests) (cut (still_first first (qs ++ d.requests)) (d.rest ++ v)) = cuts_alike first w v ∙ ap (λ (c : Cut). after c.requests (cut (still_first first c.requests) (c.rest ++ v))) e in
    let on : cut (still_first first qs) (r ++ v) ≡ after d.requests (cut (still_first (still_first first qs) d.requests) (d.rest ++ v)) = cuts_alike (still_first first qs) r v in
    whole
    ∙ ap (λ b. after (qs ++ d.requests) (cut b (d.rest ++ v))) (first_still first qs d.requests)
    ∙ after_both qs d.requests (cut (still_first (still_first first qs) d.requests) (d.rest ++ v))
    ∙ ap (after qs) (sym on)
