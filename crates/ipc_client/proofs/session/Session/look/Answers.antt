use Rattle.std.proofs.Common.{ℕ, List, [], Bor, map, sym, ap, ◌∙◌}
use Rattle.ipc_client.specs.Acts.{acting}
use Rattle.ipc_client.specs.Dialogues.{Link, link}
use Rattle.ipc_client.proofs.ListLemmas.{looked, not_looked}
use Rattle.ipc_client.proofs.session.Session.look.Goals as goal

pub returns-in_default : goal.returns-in_default
returns-in_default g c =
    let now : List (Bor (List ℕ)) → List (List ℕ) = map (λ (w : Bor (List ℕ)). w.now) in
    not_looked c.args.act c.args.name.now (now c.deref.result.now) c.in_ok-opened.opened (link g.R.Read.remaining g.W.Write.contents c.args.self.now c.args.writer.now) (link g.R.Read.remaining g.W.Write.contents c.ask_words.new.self c.ask_words.new.writer)
    (ap now c.deref.ensures.value ∙ c.in_ok-opening.ensures) (sym c.opened_by.ensures ∙ c.in_default.is) c.in_ok-opened.ensures

pub returns : goal.returns
returns g c =
    let now : List (Bor (List ℕ)) → List (List ℕ) = map (λ (w : Bor (List ℕ)). w.now) in
    let opened : Link = link g.R.Read.remaining g.W.Write.contents c.ask_words.new.self c.ask_words.new.writer in
    let told : Link = link g.R.Read.remaining g.W.Write.contents c.ask_words-2.new.self c.ask_words-2.new.writer in
    looked c.args.act c.args.name.now c.as_str-2.result.now (now c.deref.result.now) (now c.deref-2.result.now) c.in_ok-opened.opened c.in_ok-state.state c.in-Some.desc c.in_ok-close.field-0
    (link g.R.Read.remaining g.W.Write.contents c.args.self.now c.args.writer.now) opened told (link g.R.Read.remaining g.W.Write.contents c.close.new.self c.close.new.writer)
    (ap now c.deref.ensures.value ∙ c.in_ok-opening.ensures) (sym c.opened_by.ensures ∙ c.in-Some.is) (c.as_str-2.ensures.value ∙ c.in_ok-desc.ensures)
    (ap now c.deref-2.ensures.value ∙ c.in_ok-acting.ensures ∙ ap (λ (d : List ℕ). acting c.args.act d []) (c.as_str.ensures.value ∙ c.in_ok-desc.ensures)) c.in_ok-opened.ensures c.in_ok-state.ensures c.in_ok-close.ensures
