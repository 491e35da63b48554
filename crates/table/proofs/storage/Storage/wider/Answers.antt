use Rattle.std.proofs.Common.{◌≡◌, ◌∙◌, ◌++◌, [], ◌∷◌, List, Option, ap, length, map, option_map, subst, sym}
use Rattle.std.specs.Arc.{arc_value}
use Rattle.std.specs.declared.alloc.Global.{Global}
use Rattle.std.specs.declared.sync.Arc.{Arc}
use Rattle.std.specs.declared.vec.Vec.{Vec}
use Rattle.std.proofs.lemmas.List.{length-map, map-append}
use Rattle.arrays.specs.Prelude.{Batch, FieldShape, Kind, Seen, field_of, kind_of, kind_of_field, rows_of}
use Rattle.compaction.specs.Under.{pieces_of}
use Rattle.answers.specs.Prelude.{ColumnStats}
use Rattle.arrays.proofs.ShapeLemmas.{kind_of_field-field_of}
use Rattle.table.specs.Prelude.{AreAllWider, AreWider, batches_of, dictionaries_in, no_texts, pieces_in, with_nulls}
use Rattle.table.proofs.StorageLemmas.{length-pieces}
use Rattle.table.proofs.storage.Storage.wider.Goals as goal

abbrev Shared : Type 0
Shared = Arc Batch Global

abbrev Piece : Type 0
Piece = Arc (Vec ColumnStats Global) Global

pub wider_pieces-requires : goal.wider_pieces-requires
wider_pieces-requires c =
    let h = c.args.self.now in
    length-pieces h c.requires.storage
    ∙ length-map (batches_of h) rows_of
    ∙ length-map h.batches.items (λ (b : Shared). arc_value b)
    ∙ ap (λ (l : List Shared). length l) (sym c.deref-3.ensures.value)

pub returns : goal.returns
returns c =
    let h = c.args.self.now in
    let f = field_of c.args.field.now in
    let ty = kind_of c.args.field.now.ty in
    let with = c.in_ok-storage.ensures in
    let same : ty ≡ kind_of_field f = sym (kind_of_field-field_of c.args.field.now) in
    let entry = c.in_ok-no_entry.field-0 in
    let after = pieces_of c.in_ok-pieces.pieces.items in
    let stats = c.in_ok-wider_stats.field-0 in
    record {
      schema = c.in_ok-schema.ensures.ok ∙ c.in_ok-wider_schema.ensures ∙ ap (λ (l : List FieldShape). l ++ f ∷ []) c.deref.ensures;
      rows = with.rows;
      batches =
          ap (map (λ (b : Shared). arc_value b)) with.batches
          ∙ c.in_ok-batches.ensures
          ∙ ap (λ (l : List Shared). map (with_nulls f) (map (λ (b : Shared). arc_value b) l)) c.deref-2.ensures.value;
      pieces =
          subst (λ (l : List Piece). AreAllWider (kind_of_field f) (batches_of h) (pieces_in h) (pieces_of l)) (sym (with.pieces ∙ c.in_ok-batch_stats.ensures))
          (subst (λ (k : Kind). AreAllWider k (batches_of h) (pieces_in h) after) same
          (subst (λ (l : List Shared). AreAllWider ty (map (λ (b : Shared). arc_value b) l) (pieces_in h) after) c.deref-3.ensures.value c.in_ok-pieces.ensures));
      stats =
          subst (λ (v : Vec ColumnStats Global). AreWider (kind_of_field f) h.rows (arc_value h.stats).items v.items) (sym c.in_ok-storage-2.ensures.ok)
          (subst (λ (k : Kind). AreWider k h.rows (arc_value h.stats).items stats.items) same
          (subst (λ (l : List ColumnStats). AreWider ty h.rows l stats.items) (c.deref-5.ensures.value ∙ ap (λ (v : Vec ColumnStats Global). v.items) c.deref-4.ensures) c.in_ok-wider_stats.ensures));
      dictionaries =
          ap (map (option_map arc_value)) c.in_ok-push.ensures.items
          ∙ map-append (option_map arc_value) c.in_ok-storage.storage.dictionaries.items (entry ∷ [])
          ∙ ap (λ (l : List (Option Seen)). l ++ option_map arc_value entry ∷ []) with.dictionaries
          ∙ ap (λ (o : Option Seen). dictionaries_in h ++ o ∷ []) (c.in_ok-no_entry.ensures ∙ ap no_texts same);
      book = with.book;
    }
