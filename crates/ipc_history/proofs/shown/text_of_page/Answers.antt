use Rattle.std.proofs.Common.{◌∙◌, ◌-◌, ap, min, sym}
use Rattle.ipc_history.specs.Shown.{page_text}
use Rattle.ipc_history.proofs.ShownLemmas.{page_length}
use Rattle.ipc_history.proofs.shown.text_of_page.Goals as goal

pub returns : goal.returns
returns c = λ h same.
    let count = page_length c.args.start c.args.count h ∙ ap (λ n. min (min c.args.count 1000) (n - c.args.start)) same in
    c.in_ok-text.ensures ∙ ap (page_text c.args.place c.args.start) (c.lines_shown.ensures ∙ sym count)
