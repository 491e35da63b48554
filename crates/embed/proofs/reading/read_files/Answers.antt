use Rattle.std.proofs.Common.{Bor, List, map, ℕ}
use Rattle.std.proofs.lemmas.List.Elements.{All-push, All-same}
use Rattle.arrays.specs.File.{File}
use Rattle.arrow_json.specs.Prelude.{AreUnder, file_of}
use Rattle.embed.proofs.LoadLemmas.{texts_more, unread_stops, view_at}
use Rattle.embed.proofs.reading.read_files.Goals as goal

pub returns-in-Err-clause-err : goal.returns-in-Err-clause-err
returns-in-Err-clause-err c =
    let texts = c.args.texts.now in
    let at = c.loop-place in
    unread_stops (map (λ (t : Bor (List ℕ)). t.now) texts) (map file_of at.files.items) at.place _ c.in-Err.fault c.text_fault.result
    (view_at (λ (t : Bor (List ℕ)). t.now) texts at.place _ c.loop-place-test.true) at.invariant.read c.in-Err.ensures.err c.text_fault.ensures

pub loop-place-preserved : goal.loop-place-preserved
loop-place-preserved c =
    let texts = c.args.texts.now in
    let at = c.loop-place in
    let under : File → Type 0 = λ f. AreUnder f.fields f.batches in record {
      read = texts_more (map (λ (t : Bor (List ℕ)). t.now) texts) at.files.items c.push.new.self.items at.place _ c.in-Ok.file
          (view_at (λ (t : Bor (List ℕ)). t.now) texts at.place _ c.loop-place-test.true) at.invariant.read c.in-Ok.ensures.ok c.in_ok-push-in-Ok.ensures.items;
      under = All-same under c.push.new.self.items _ c.in_ok-push-in-Ok.ensures.items (All-push under at.files.items c.in-Ok.file at.invariant.under c.in-Ok.ensures.under);
    }
