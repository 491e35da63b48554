use Rattle.std.proofs.Common.{◌∙◌, ◌≡◌, ◌≤◌, ap, false, subst, sym, true}
use Rattle.arrays.specs.Prelude.{FieldShape, Kind, depth, field_of, has_dict_in_list, is_nullable, kind_of_field}
use Rattle.arrays.proofs.ShapeLemmas.{kind_of_field-field_of}
use Rattle.table.specs.Prelude.{Contents, show, with_last_field}
use Rattle.table.specs.declared.storage.Storage.{Storage}
use Rattle.table.proofs.AddLemmas.{fits-stored}
use Rattle.table.proofs.PutLemmas.{if-ok}
use Rattle.table.proofs.WiderLemmas.{wider-storage, wider-shows}
use Rattle.table.proofs.widening.stage.Goals as goal

pub wider-requires-clause-depth : goal.wider-requires-clause-depth
wider-requires-clause-depth c =
    let fits = fits-stored (field_of c.args.field.now) c.requires.allowed in
    subst (λ (k : Kind). depth k ≤ 8) (ap kind_of_field (sym c.in_ok-field.ensures) ∙ kind_of_field-field_of c.in_ok-field.field) fits.depth

pub wider-requires-clause-no_dict : goal.wider-requires-clause-no_dict
wider-requires-clause-no_dict c =
    let fits = fits-stored (field_of c.args.field.now) c.requires.allowed in
    subst (λ (k : Kind). has_dict_in_list k ≡ false) (ap kind_of_field (sym c.in_ok-field.ensures) ∙ kind_of_field-field_of c.in_ok-field.field) fits.no_dict

pub returns-clause-lawful : goal.returns-clause-lawful
returns-clause-lawful c =
    let storage = c.args.storage.now in
    let f = field_of c.in_ok-field.field in
    let fits = fits-stored (field_of c.args.field.now) c.requires.allowed in
    let nullable : is_nullable f ≡ true = ap is_nullable c.in_ok-field.ensures ∙ fits.nullable in
    if-ok (λ (h : Storage) wide. wider-storage storage h f nullable c.requires.storage wide) c.wider.result c.wider.ensures

pub returns-clause-shows : goal.returns-clause-shows
returns-clause-shows c =
    let storage = c.args.storage.now in
    let f = field_of c.in_ok-field.field in
    let fits = fits-stored (field_of c.args.field.now) c.requires.allowed in
    let nullable : is_nullable f ≡ true = ap is_nullable c.in_ok-field.ensures ∙ fits.nullable in
    if-ok (λ (h : Storage) wide. ◌∙◌ {A = Contents} (wider-shows storage h f nullable c.requires.storage wide) (ap (λ (g : FieldShape). with_last_field (show storage) g) c.in_ok-field.ensures)) c.wider.result c.wider.ensures
