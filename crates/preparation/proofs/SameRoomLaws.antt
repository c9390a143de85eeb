-- A room that is lent on is the same room.
use mathlib.Core.Path.{refl, ◌∙◌}
use Rattle.network.specs.declared.lent.ShortcutRoom.{ShortcutRoom}
use Rattle.network.specs.Lent.{SameRoom}

pub same_room : {a : ShortcutRoom} → SameRoom a a
same_room = record {
  same_tails = refl;
  same_heads = refl;
  same_modes = refl;
  same_lengths = refl;
  same_counts = refl;
  same_firsts = refl;
  same_seconds = refl;
}

pub same_room_still : {a b c : ShortcutRoom} → SameRoom a b → SameRoom b c → SameRoom a c
same_room_still s t = record {
  same_tails = t.same_tails ∙ s.same_tails;
  same_heads = t.same_heads ∙ s.same_heads;
  same_modes = t.same_modes ∙ s.same_modes;
  same_lengths = t.same_lengths ∙ s.same_lengths;
  same_counts = t.same_counts ∙ s.same_counts;
  same_firsts = t.same_firsts ∙ s.same_firsts;
  same_seconds = t.same_seconds ∙ s.same_seconds;
}
