use Rattle.std.proofs.Common.{◌≡◌, ◌≢◌, drop, sym, ap, ◌∙◌, rules}
use Rattle.json_scan.proofs.Objects.{noted_member, kept_member}
use Rattle.json_scan.proofs.object.MemberPlaceMemberVisitor.visit.Goals as goal

pub returns-then-eq-clause-ok : goal.returns-then-eq-clause-ok
returns-then-eq-clause-ok c =
    let v = c.in_ok-end.ensures.ok in
    let same : c.args.name.now ≡ c.args.self.now.name.now = search rules in
    (v.0, v.1, λ first ms h. (h.0, (v.0, noted_member first.name.now c.args.name.now v.0 ms (same ∙ ap (λ r. r.now) h.0), drop c.in_ok-end.end c.args.text.now, v.1)))

pub returns-else-eq-clause-ok : goal.returns-else-eq-clause-ok
returns-else-eq-clause-ok c =
    let v = c.in_ok-end.ensures.ok in
    let apart : c.args.name.now ≢ c.args.self.now.name.now = search rules in
    (v.0, v.1, λ first ms h. (h.0, kept_member c.args.depth c.args.text.now first.name.now c.args.name.now v.0 ms c.args.self.now.place (λ e. apart (sym e ∙ ap (λ r. r.now) (sym h.0))) h.1))
