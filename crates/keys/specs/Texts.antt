-- The texts that parts of keys name: common ones, and others behind them.
use Rattle.std.specs.Prelude.{ℕ, ◌++◌, List}
use Rattle.keys.specs.declared.key_texts.KeyTexts.{KeyTexts}

abbrev pub named_texts : KeyTexts → List (List ℕ)
named_texts t = t.common.now ++ t.own
