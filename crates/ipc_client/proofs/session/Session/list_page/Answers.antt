use Rattle.std.proofs.Common.{◌≡◌, ℕ, List, [], ◌∷◌, None, ap, ap₂, sym, ◌∙◌, codes}
use Rattle.ipc_client.specs.Dialogues.{incoming_of, link}
use Rattle.ipc_client.specs.Lists.{names_told}
use Rattle.ipc_client.proofs.ListLemmas.{no_names, page_not_told, page_told}
use Rattle.ipc_client.proofs.session.Session.list_page.Goals.{in_default-via-in-Some+else-tells_names, in_default-via-in_default}
use Rattle.ipc_client.proofs.session.Session.list_page.Goals as goal

pub returns-in-Some : goal.returns-in-Some
returns-in-Some g c =
    let words : List ℕ → List ℕ → List (List ℕ) = λ family start. codes "ls" ∷ family ∷ start ∷ codes "1000" ∷ [] in
    page_told c.args.family c.args.start (words c.word_of.result.now c.as_str.result.now) c.in_ok-page.page c.in-Some.answer c.in_ok-count-in-Some.count
    (link g.R.Read.remaining g.W.Write.contents c.args.self.now c.args.writer.now) (link g.R.Read.remaining g.W.Write.contents c.ask_words.new.self c.ask_words.new.writer) (link g.R.Read.remaining g.W.Write.contents c.list_names.new.self c.list_names.new.writer)
    (ap₂ words c.word_of.ensures (c.as_str.ensures.value ∙ c.in_ok-start.ensures)) c.in-Some.is (sym c.tells_names.ensures ∙ c.if-tells_names.true) c.in_ok-page.ensures c.in_ok-count-in-Some.ensures

pub returns : goal.returns
returns g c =
    let words : List ℕ → List ℕ → List (List ℕ) = λ family start. codes "ls" ∷ family ∷ start ∷ codes "1000" ∷ [] in
    let none : names_told c.in_ok-page.page ≡ None =
    elim c.in_default.branch [ in_default-via-in-Some+else-tells_names w ↦ no_names c.in_ok-page.page w.in-Some.answer w.in-Some.is (sym w.tells_names.ensures ∙ w.if-tells_names.false) | in_default-via-in_default w ↦ ap names_told w.in_default.is ] in
    page_not_told c.args.family c.args.start (words c.word_of.result.now c.as_str.result.now) c.in_ok-page.page
    (link g.R.Read.remaining g.W.Write.contents c.args.self.now c.args.writer.now) (link g.R.Read.remaining g.W.Write.contents c.ask_words.new.self c.ask_words.new.writer) (incoming_of g.R.Read.remaining c.show.new.self)
    (ap₂ words c.word_of.ensures (c.as_str.ensures.value ∙ c.in_ok-start.ensures)) none c.in_ok-page.ensures c.show.ensures.kept
