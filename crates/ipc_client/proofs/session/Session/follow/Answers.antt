use Rattle.std.proofs.Common.{ℕ, List, map, sym, ◌∙◌, Bor}
use Rattle.ipc_client.specs.Dialogues.{link}
use Rattle.ipc_client.proofs.EndLemmas.{line_by_name, line_listed, line_plain}
use Rattle.ipc_client.proofs.session.Session.follow.Goals as goal

pub returns-then-is_list : goal.returns-then-is_list
returns-then-is_list g c =
    let words : List (List ℕ) = map (λ (w : Bor (List ℕ)). w.now) c.args.words.now in
    line_listed c.args.last.now words (link g.R.Read.remaining g.W.Write.contents c.args.self.now c.args.writer.now) (link g.R.Read.remaining g.W.Write.contents c.list.new.self c.list.new.writer) c.list.result (sym c.is_list.ensures ∙ c.if-is_list.true) c.list.ensures

pub returns-in-Some : goal.returns-in-Some
returns-in-Some g c =
    let now : List (Bor (List ℕ)) → List (List ℕ) = map (λ (w : Bor (List ℕ)). w.now) in
    line_by_name c.args.last.now (now c.args.words.now) c.in-Some.act c.name_of.result.now (now c.arguments_of.result.now) (link g.R.Read.remaining g.W.Write.contents c.args.self.now c.args.writer.now) (link g.R.Read.remaining g.W.Write.contents c.act_by_name.new.self c.act_by_name.new.writer) c.act_by_name.result
    (sym c.is_list.ensures ∙ c.if-is_list.false) (sym c.act_asked.ensures ∙ c.in-Some.is) c.name_of.ensures c.arguments_of.ensures c.act_by_name.ensures

pub returns-in-None : goal.returns-in-None
returns-in-None g c =
    let words : List (List ℕ) = map (λ (w : Bor (List ℕ)). w.now) c.args.words.now in
    line_plain c.args.last.now c.call.new.last words (link g.R.Read.remaining g.W.Write.contents c.args.self.now c.args.writer.now) (link g.R.Read.remaining g.W.Write.contents c.call.new.self c.call.new.writer) c.call.result
    (sym c.is_list.ensures ∙ c.if-is_list.false) (sym c.act_asked.ensures ∙ c.in-None.is) c.call.ensures
