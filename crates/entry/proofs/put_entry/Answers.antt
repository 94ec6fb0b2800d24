use mathlib.Core.Path.{sym, ap, ◌∙◌, subst}
use Rattle.text.specs.Pages.{Fits, Puts}
use Rattle.listing.specs.Listing.{entry_by, ended}
use Rattle.listing.proofs.Numbered.{table_is, entry_table}
use Rattle.entry.proofs.put_entry.Goals as goal

pub put_numbered-requires : goal.put_numbered-requires
put_numbered-requires c =
    let a = c.args in
    let same = ap (entry_by a.k) (table_is a.a c.map_err.result c.map_err.ensures.cases) ∙ entry_table a.k a.a in
    subst (λ l. Fits a.page.now (ended l)) (sym same) c.requires

pub returns : goal.returns
returns c =
    let a = c.args in
    let same = ap (entry_by a.k) (table_is a.a c.map_err.result c.map_err.ensures.cases) ∙ entry_table a.k a.a in
    subst (λ l. Puts a.page.now (ended l) c.put_numbered.new.page) same c.put_numbered.ensures
