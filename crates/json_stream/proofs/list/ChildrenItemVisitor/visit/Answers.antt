use Rattle.std.proofs.Common.{◌≡◌, None, ap, rules}
use Rattle.arrays.specs.Prelude.{kind_of, out-Field}
use Rattle.json_stream.proofs.ListLemmas.{child_taken}
use Rattle.json_stream.proofs.list.ChildrenItemVisitor.visit.Goals as goal

pub returns-clause-ok : goal.returns-clause-ok
returns-clause-ok c =
    let read = c.in_ok-child.ensures.ok in
    let none : c.args.self.now.child ≡ None = search rules in (
      read.0,
      read.1,
      λ first ds h. (
        h.0,
        child_taken _ _ c.args.depth c.args.text.now ds read.0 c.args.self.now.child c.in_ok-child.child.value (ap (λ f. kind_of (out-Field f.now).ty) h.0) none h.1 read.2,
      ),
    )
