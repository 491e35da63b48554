use Rattle.std.proofs.Common.{Some, ◌∙◌, ap, arith, option_map, subst, sym}
use Rattle.std.proofs.lemmas.Result.{on_ok_weaker}
use Rattle.std.specs.Arc.{arc_value}
use Rattle.arrays.specs.Prelude.{Dict, Field, field_of, kind_of_field, read_lent}
use Rattle.arrays.specs.Kind as kind
use Rattle.flat.proofs.LentLemmas.{IsListed, alone_of, child_of, child_read, kind_by, kind_of-Dict, list_falls, listed_of, pushed_alone, pushed_coded, pushed_listed, some_child, some_words}
use Rattle.flat.proofs.lent.+push_column.Goals as goal

pub returns-in-Int : goal.returns-in-Int
returns-in-Int t c =
    pushed_alone (field_of c.args.field.now) c.args.parts c.node_of.result c.args.nodes.now.items c.push.new.self.items c.node_of.ensures (alone_of c.args.field.now c.in-Int.is) c.requires c.in_ok-push.ensures.items

pub returns-in-Int-2 : goal.returns-in-Int-2
returns-in-Int-2 t c =
    pushed_alone (field_of c.args.field.now) c.args.parts c.node_of.result c.args.nodes.now.items c.push.new.self.items c.node_of.ensures (alone_of c.args.field.now c.in-Int.is) c.requires c.in_ok-push.ensures.items

pub returns-in-Int-3 : goal.returns-in-Int-3
returns-in-Int-3 t c =
    pushed_alone (field_of c.args.field.now) c.args.parts c.node_of.result c.args.nodes.now.items c.push.new.self.items c.node_of.ensures (alone_of c.args.field.now c.in-Int.is) c.requires c.in_ok-push.ensures.items

pub returns-in-Int-4 : goal.returns-in-Int-4
returns-in-Int-4 t c =
    pushed_alone (field_of c.args.field.now) c.args.parts c.node_of.result c.args.nodes.now.items c.push.new.self.items c.node_of.ensures (alone_of c.args.field.now c.in-Int.is) c.requires c.in_ok-push.ensures.items

pub push_column-requires : goal.push_column-requires
push_column-requires t c =
    let f = c.args.field.now in
    let item = c.deref-in-Some-first.result.now in
    let raw = c.in-Some-first.child.now in
    let listed = subst (λ (i : Field). IsListed f i) (sym c.deref-in-Some-first.ensures) (listed_of f c.in-List.item c.in-List.is) in
    let one = child_of f item c.args.parts raw listed c.requires c.in-Some-first.ensures.value in
    let k = kind_of_field (field_of item) in
    let falls = list_falls f item listed in
    (omega (arith, falls, c.decreases), ap (λ r. r.fault) (c.parts_of.ensures k ∙ child_read k raw c.args.parts.children.now one) ∙ one.lawful)

pub returns-in-Some-first : goal.returns-in-Some-first
returns-in-Some-first t c =
    let f = c.args.field.now in
    let p = c.args.parts in
    let item = c.deref-in-Some-first.result.now in
    let raw = c.in-Some-first.child.now in
    let listed = subst (λ (i : Field). IsListed f i) (sym c.deref-in-Some-first.ensures) (listed_of f c.in-List.item c.in-List.is) in
    let one = child_of f item p raw listed c.requires c.in-Some-first.ensures.value in
    let k = kind_of_field (field_of item) in
    let inner = read_lent k c.parts_of.result in
    on_ok_weaker c.push_column.result
    (pushed_listed (field_of f) listed.width (field_of item) p raw c.node_of.result inner c.args.nodes.now.items c.push.new.self.items c.push_column.new.nodes.items c.node_of.ensures listed.is c.requires one
    (c.parts_of.ensures k ∙ child_read k raw p.children.now one) c.in_ok-push.ensures.items)
    c.push_column.ensures

pub returns-in-None-first : goal.returns-in-None-first
returns-in-None-first t c =
    let f = c.args.field.now in
    absurd (some_child f c.in-List.item.value c.args.parts (listed_of f c.in-List.item c.in-List.is) c.requires c.in-None-first.ensures.value)

pub returns-in-Some : goal.returns-in-Some
returns-in-Some t c =
    let f = field_of c.args.field.now in
    let words = c.deref.result.now in
    on_ok_weaker c.push_words.result
    (pushed_coded f c.args.parts words c.node_of.result c.args.nodes.now.items c.push.new.self.items c.push_words.new.nodes.items c.node_of.ensures (kind_by c.args.field.now Dict kind.dict c.in-Dict.is kind_of-Dict) c.requires
    (ap (option_map (λ w. arc_value w.now)) c.in-Some.is ∙ ap (λ s. Some s) (sym c.deref.ensures)) c.in_ok-push.ensures.items)
    c.push_words.ensures

pub returns-in-None : goal.returns-in-None
returns-in-None t c =
    absurd (some_words (field_of c.args.field.now) c.args.parts (kind_by c.args.field.now Dict kind.dict c.in-Dict.is kind_of-Dict) c.requires (ap (option_map (λ w. arc_value w.now)) c.in-None.is))
