use Rattle.std.proofs.Common.{◌≡◌, ◌<◌, ◌∷◌, ◌++◌, [], length, get_or, map, option_map, sym, ap, subst, arith, rules}
use Rattle.arrays.specs.Prelude.{fields_of, kind_of, out-Field}
use Rattle.json_read.specs.Prelude.{HoldsTop, coding_of}
use Rattle.json_stream.proofs.BatchLemmas.{columns_known, column_taken}
use Rattle.json_stream.proofs.columns.ColumnsItemVisitor.visit.Goals as goal

pub returns-clause-ok : goal.returns-clause-ok
returns-clause-ok c =
    let self = c.args.self.now in
    let fields = self.fields.now in
    let catalog = self.catalog.now in
    let columns = self.columns.items in
    let column = c.in_ok-column.column.value in
    let read = c.in_ok-column.ensures.ok in
    let n = c.len-index.result in
    let many : n ≡ length columns = search rules in
    let at_field : n < length fields = omega arith in
    let at_coding : n < length catalog = omega arith in
    let field = c.index-self-index in
    let coding = c.index-self-index-2 in
    let kind = subst (λ f. HoldsTop (kind_of (out-Field f).ty) (option_map coding_of (get_or catalog n coding.result)) (length column.items) read.0 column) (sym field.is) read.2 in
    let holds = subst (λ b. HoldsTop (kind_of (out-Field field.result).ty) (option_map coding_of b) (length column.items) read.0 column) (sym coding.is) kind in (
      read.0,
      read.1,
      λ first ds h.
          let same = ap (λ r. fields_of r.now) h.0 in
          let coded = ap (λ r. map (option_map coding_of) r.now) h.1 in
          let before = columns_known _ _ _ _ ds columns (sym same) (sym coded) h.2 in
          let more = column_taken fields catalog ds columns n field.result coding.result read.0 column before many at_field field.is at_coding coding.is holds in
          (h.0, h.1, rw c.in_ok-push.ensures (columns_known _ _ _ _ (ds ++ read.0 ∷ []) (columns ++ column ∷ []) same coded more)),
    )
