-- The members of an entry one after another, the entry that they make, and entries one after another.
use Rattle.std.proofs.Common.{◌≡◌, ◌≢◌, ◌∙◌, ℕ, ℤ, List, [], ◌∷◌, ◌++◌, Option, Some, None, option_and_then, Global, refl, sym, ap, subst}
use Rattle.std.specs.declared.sync.Arc.{Arc}
use Rattle.arrays.specs.Prelude.{Seen}
use Rattle.json_read.specs.Prelude.{AreWordsOf, Data, Members, get_member, id_of, member_name, object, put}
use Rattle.json_read.specs.Members as member
use Rattle.json_stream.proofs.ColumnLemmas.{here, there, no_member}
use Rattle.json_file.specs.Dictionary.{IsEntry, IsId, AreWords, HoldsEntry, AreEntries}
use Rattle.json_file.specs.declared.dictionary.DictionaryEntry.{DictionaryEntry}
use Rattle.json_file.specs.declared.dictionary.EntryParts.{EntryParts}
use Rattle.json_file.proofs.BatchesRead.{one_more}

-- ---- a member is taken

module _ (name : List ℕ) (d : Data) (ms : Members) (p : EntryParts) (h : HoldsEntry ms p) where
  same_id : name ≢ member_name member.Id → IsId (get_member (member_name member.Id) (put name d ms)) p.id
  same_id apart = subst (λ o. IsId o p.id) (sym (there member.Id name d ms apart)) h.id

  same_words : name ≢ member_name member.Texts → AreWords (get_member (member_name member.Texts) (put name d ms)) p.words
  same_words apart = subst (λ o. AreWords o p.words) (sym (there member.Texts name d ms apart)) h.words

  pub id_taken : (id : ℤ) → name ≡ member_name member.Id → id_of d ≡ Some id → HoldsEntry (put name d ms) (record p { id = Some id })
  id_taken id e is = record {
    id = ap (option_and_then id_of) (here member.Id name d ms e) ∙ is;
    words = same_words (no_member member.Id member.Texts name e (λ f. cc));
  }

  pub words_taken : (words : Option (Arc Seen Global)) → name ≡ member_name member.Texts → AreWords (Some d) words → HoldsEntry (put name d ms) (record p { words = words })
  words_taken words e is = record {
    id = same_id (no_member member.Texts member.Id name e (λ f. cc));
    words = subst (λ o. AreWords o words) (sym (here member.Texts name d ms e)) is;
  }

  pub entry_passed : name ≢ member_name member.Id → name ≢ member_name member.Texts → HoldsEntry (put name d ms) p
  entry_passed no_id no_words = record { id = same_id no_id; words = same_words no_words }

-- ---- the entry

words_kept : (ms : Members) (words : Option (Arc Seen Global)) → AreWords (get_member (member_name member.Texts) ms) words → AreWordsOf (object ms) words
words_kept ms None h = tt
words_kept ms (Some words) h = record { wrapper = h.0; at_wrapper = h.1; reads = h.2 }

pub entry_held : (ms : Members) (p : EntryParts) (id : ℤ) → HoldsEntry ms p → p.id ≡ Some id → IsEntry (object ms) (record { id = id; words = p.words })
entry_held ms p id h at_id = record { id = subst (IsId (get_member (member_name member.Id) ms)) at_id h.id; words = words_kept ms p.words h.words }

-- ---- entries

pub no_entries : (entries : List DictionaryEntry) → entries ≡ [] → AreEntries [] entries
no_entries entries none = subst (AreEntries []) (sym none) record { len = refl; each = λ i d e found got. absurd cc }

pub entries_more : (ds : List Data) (d : Data) (old new : List DictionaryEntry) (e : DictionaryEntry) → AreEntries ds old → IsEntry d e → new ≡ old ++ e ∷ [] → AreEntries (ds ++ d ∷ []) new
entries_more ds d old new e h is grown = subst (AreEntries (ds ++ d ∷ [])) (sym grown) (one_more IsEntry ds d old e h is)
