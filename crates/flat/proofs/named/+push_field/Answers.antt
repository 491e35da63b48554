use Rattle.std.proofs.Common.{arith, subst, sym}
use Rattle.std.proofs.lemmas.Result.{on_ok_weaker}
use Rattle.arrays.specs.Kind as kind
use Rattle.arrays.specs.Prelude.{Dict, Field, field_of}
use Rattle.flat.proofs.LentLemmas.{IsListed, alone_of, kind_by, kind_of-Dict, list_falls, listed_of}
use Rattle.flat.proofs.NamedLemmas.{named_alone, named_coded, named_listed}
use Rattle.flat.proofs.named.+push_field.Goals as goal

pub returns-in-Int : goal.returns-in-Int
returns-in-Int t c =
    named_alone (field_of c.args.field.now) c.node_of.result c.args.nodes.now.items c.push.new.self.items c.node_of.ensures (alone_of c.args.field.now c.in-Int.is) c.in_ok-push.ensures.items

pub returns-in-Int-2 : goal.returns-in-Int-2
returns-in-Int-2 t c =
    named_alone (field_of c.args.field.now) c.node_of.result c.args.nodes.now.items c.push.new.self.items c.node_of.ensures (alone_of c.args.field.now c.in-Int.is) c.in_ok-push.ensures.items

pub returns-in-Int-3 : goal.returns-in-Int-3
returns-in-Int-3 t c =
    named_alone (field_of c.args.field.now) c.node_of.result c.args.nodes.now.items c.push.new.self.items c.node_of.ensures (alone_of c.args.field.now c.in-Int.is) c.in_ok-push.ensures.items

pub returns-in-Int-4 : goal.returns-in-Int-4
returns-in-Int-4 t c =
    named_alone (field_of c.args.field.now) c.node_of.result c.args.nodes.now.items c.push.new.self.items c.node_of.ensures (alone_of c.args.field.now c.in-Int.is) c.in_ok-push.ensures.items

pub returns-in-Dict : goal.returns-in-Dict
returns-in-Dict t c =
    let f = c.args.field.now in
    on_ok_weaker c.push_texts.result
    (named_coded (field_of f) c.node_of.result c.args.nodes.now.items c.push.new.self.items c.push_texts.new.nodes.items c.node_of.ensures (kind_by f Dict kind.dict c.in-Dict.is kind_of-Dict) c.in_ok-push.ensures.items)
    c.push_texts.ensures

pub push_field-requires : goal.push_field-requires
push_field-requires t c =
    let f = c.args.field.now in
    let item = c.deref.result.now in
    let listed = subst (λ (i : Field). IsListed f i) (sym c.deref.ensures) (listed_of f c.in-List.item c.in-List.is) in
    let falls = list_falls f item listed in
    omega (arith, falls, c.decreases)

pub returns-in-List : goal.returns-in-List
returns-in-List t c =
    let f = c.args.field.now in
    let item = c.deref.result.now in
    let listed = subst (λ (i : Field). IsListed f i) (sym c.deref.ensures) (listed_of f c.in-List.item c.in-List.is) in
    on_ok_weaker c.push_field.result
    (named_listed (field_of f) listed.width (field_of item) c.node_of.result c.args.nodes.now.items c.push.new.self.items c.push_field.new.nodes.items c.node_of.ensures listed.is c.in_ok-push.ensures.items)
    c.push_field.ensures
