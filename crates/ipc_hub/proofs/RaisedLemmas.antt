-- Where nothing was forgotten, calls stand in the trail as they were asked for.
use Rattle.std.proofs.Common.{◌≡◌, ℕ, max, [], ◌∷◌, refl, ap, ◌∙◌, arith}
use Rattle.ipc_terms.specs.declared.call.Call.{Call}
use Rattle.ipc_terms.specs.declared.call.Call.TheVariants as call
use Rattle.ipc_wire.specs.declared.request.Request.{Request}
use Rattle.ipc_wire.specs.declared.request.Request.TheVariants as request
use Rattle.ipc_hub.specs.Hub.{from_kept}
use Rattle.ipc_hub.specs.Laws.{as_stepped, NothingIsRaised}

max_zero : (n : ℕ) → max n 0 ≡ n
max_zero n = omega arith

from_the_first : (asked : Call) → from_kept 0 asked ≡ asked
from_the_first (call.Umask mask) = refl
from_the_first (call.MqOpen asked) = refl
from_the_first (call.MqClose desc) = refl
from_the_first (call.MqUnlink name) = refl
from_the_first (call.MqSend desc priority bytes) = refl
from_the_first (call.MqReceive desc size) = refl
from_the_first (call.MqTimedSend desc priority deadline bytes) = refl
from_the_first (call.MqTimedReceive desc size deadline) = refl
from_the_first (call.MqGetattr desc) = refl
from_the_first (call.MqSetattr desc nonblock) = refl
from_the_first (call.MqNotify desc on) = refl
from_the_first (call.MqGive desc taker) = refl
from_the_first (call.SemOpen asked) = refl
from_the_first (call.SemClose desc) = refl
from_the_first (call.SemUnlink name) = refl
from_the_first (call.SemPost desc) = refl
from_the_first (call.SemWait desc) = refl
from_the_first (call.SemTimedWait desc deadline) = refl
from_the_first (call.SemTryWait desc) = refl
from_the_first (call.SemGetvalue desc) = refl
from_the_first (call.ListNames family start count) = refl
from_the_first (call.StatName target) = refl
from_the_first (call.Chmod mode target) = refl
from_the_first (call.Chown owner group target) = refl
from_the_first (call.SetLimit uid bytes) = refl
from_the_first call.Interrupt = refl
from_the_first (call.Audit start count) = ap (λ (n : ℕ). call.Audit n count) (max_zero start)

as_asked : (asked : Request) → as_stepped 0 asked ≡ asked
as_asked (request.Hello key) = refl
as_asked (request.Do asked) = ap (λ (c : Call). request.Do c) (from_the_first asked)

pub nothing_raised : NothingIsRaised
nothing_raised [] [] h = refl
nothing_raised [] (p ∷ ps) h = absurd h
nothing_raised (q ∷ qs) [] h = absurd h
nothing_raised (q ∷ qs) (p ∷ ps) h =
    let within = h.0.1.0 in
    let none : h.0.0 ≡ 0 = omega arith in
    let here : p ≡ q = h.0.1.1 ∙ ap (λ (n : ℕ). as_stepped n q) none ∙ as_asked q in
    let others : qs ≡ ps = nothing_raised qs ps h.1 in
    cc
