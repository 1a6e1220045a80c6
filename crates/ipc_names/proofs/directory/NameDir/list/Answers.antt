use Rattle.std.proofs.Common.{◌∙◌, ap}
use Rattle.ipc_terms.specs.Pages.{page}
use Rattle.ipc_names.proofs.DirectoryLemmas.{names_are_keys}
use Rattle.ipc_names.proofs.directory.NameDir.list.Goals as goal

pub returns : goal.returns
returns c =
    let start = ap (λ n. page n c.args.count c.as_slice.result.now) c.from.ensures in
    let keys = ap (page c.args.start c.args.count) (c.as_slice.ensures ∙ c.keys-keys.ensures.rest) in
    rw (← c.self.view_is, names_are_keys c.self.inside.objects.entries)
    (c.new.ensures ∙ c.in_ok-names_of.ensures ∙ c.page_of-asked.ensures ∙ start ∙ keys)
