use Rattle.std.proofs.Common.{ℕ, List, map, ap, sym, ◌∙◌, Bor}
use Rattle.ipc_client.specs.Dialogues.{bytes_of, incoming_of, link}
use Rattle.ipc_client.proofs.CommandLemmas.{done_by_name, not_opened}
use Rattle.ipc_client.proofs.session.Session.act_by_name.Goals as goal

pub returns : goal.returns
returns g c =
    let now : List (Bor (List ℕ)) → List (List ℕ) = map (λ (w : Bor (List ℕ)). w.now) in
    done_by_name c.args.act c.args.name.now (now c.args.arguments.now) (bytes_of c.opening_frame-frame.result) c.in_ok-opened.opened c.in-Some.desc c.as_str-desc.result.now c.in_ok-is_done.is_done c.in_ok-is_closed.is_closed
    (link g.R.Read.remaining g.W.Write.contents c.args.self.now c.args.writer.now) (link g.R.Read.remaining g.W.Write.contents c.ask.new.self c.ask.new.writer) (link g.R.Read.remaining g.W.Write.contents c.act.new.self c.act.new.writer) (link g.R.Read.remaining g.W.Write.contents c.close.new.self c.close.new.writer)
    c.opening_frame-frame.ensures c.in_ok-opened.ensures (sym c.opened_by.ensures ∙ c.in-Some.is) (c.as_str-desc.ensures.value ∙ c.in_ok-number.ensures) c.in_ok-is_done.ensures c.in_ok-is_closed.ensures

pub returns-in_default : goal.returns-in_default
returns-in_default g c =
    let now : List (Bor (List ℕ)) → List (List ℕ) = map (λ (w : Bor (List ℕ)). w.now) in
    not_opened c.args.act c.args.name.now (now c.args.arguments.now) (bytes_of c.opening_frame-frame.result) c.in_ok-opened.opened
    (link g.R.Read.remaining g.W.Write.contents c.args.self.now c.args.writer.now) (link g.R.Read.remaining g.W.Write.contents c.ask.new.self c.ask.new.writer) (incoming_of g.R.Read.remaining c.show.new.self)
    c.opening_frame-frame.ensures c.in_ok-opened.ensures (sym c.opened_by.ensures ∙ c.in_default.is) c.show.ensures.kept
