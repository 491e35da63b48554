use Rattle.std.proofs.Common.{◌∙◌, ◌+ℤ◌, ◌-ℤ◌, ◌*ℤ◌, subst, sym}
use Rattle.evaluate.proofs.OperatorLemmas.{GivesOf, gives_and, gives_comparison, gives_or, gives_results}
use Rattle.evaluate.proofs.columns.computed.Goals as goal

pub returns-in-Add : goal.returns-in-Add
returns-in-Add c =
    let a = c.args.a.now in
    let b = c.args.b.now in
    subst (GivesOf a b c.add.result) (sym c.in-Add.is) (gives_results a b c.add.result c.requires.lengths ◌+ℤ◌ c.add.ensures.ok c.add.ensures.err) c.requires.sorts

pub returns-in-Sub : goal.returns-in-Sub
returns-in-Sub c =
    let a = c.args.a.now in
    let b = c.args.b.now in
    subst (GivesOf a b c.sub.result) (sym c.in-Sub.is) (gives_results a b c.sub.result c.requires.lengths ◌-ℤ◌ c.sub.ensures.ok c.sub.ensures.err) c.requires.sorts

pub returns-in-Mul : goal.returns-in-Mul
returns-in-Mul c =
    let a = c.args.a.now in
    let b = c.args.b.now in
    subst (GivesOf a b c.mul.result) (sym c.in-Mul.is) (gives_results a b c.mul.result c.requires.lengths ◌*ℤ◌ c.mul.ensures.ok c.mul.ensures.err) c.requires.sorts

pub returns-in-And : goal.returns-in-And
returns-in-And c =
    let a = c.args.a.now in
    let b = c.args.b.now in
    subst (GivesOf a b c.kleene_and.result) (sym c.in-And.is) (gives_and a b c.kleene_and.result c.requires.lengths c.kleene_and.ensures.ok c.kleene_and.ensures.err) c.requires.sorts

pub returns-in-Or : goal.returns-in-Or
returns-in-Or c =
    let a = c.args.a.now in
    let b = c.args.b.now in
    subst (GivesOf a b c.kleene_or.result) (sym c.in-Or.is) (gives_or a b c.kleene_or.result c.requires.lengths c.kleene_or.ensures.ok c.kleene_or.ensures.err) c.requires.sorts

pub returns-in-Some : goal.returns-in-Some
returns-in-Some c =
    gives_comparison c.args.a.now c.args.b.now c.compare.result c.requires.lengths c.args.op c.in-Some.comparison (sym c.comparison_of.ensures ∙ c.in-Some.is) c.compare.ensures.ok c.compare.ensures.err c.requires.sorts
