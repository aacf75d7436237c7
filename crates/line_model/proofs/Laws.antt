-- The line keeps the laws of a board.
use Rattle.std.proofs.Common.{refl}
use Rattle.std.proofs.lemmas.Bool.{cond-false}
use Rattle.plain_model.specs.Line.{line}
use Rattle.boards.specs.Laws.{Laws}
use Rattle.line_model.specs.Seats.{seat_of}
use Rattle.line_model.specs.Line.{can_begin, started, steps}
use Rattle.line_model.specs.Meaning.{means}
use Rattle.line_model.specs.Sound.{Sound}
use Rattle.line_model.proofs.Touches.{touch_sound}
use Rattle.line_model.proofs.Distances.{needs_least, needs_most, touch_falls}
use Rattle.line_model.proofs.Does.{touch_does}
use Rattle.line_model.proofs.Others.{missing_free, touch_idle, touch_others}
use Rattle.line_model.proofs.Begins.{begin_sound, begin_others, begin_distances, begin_contents, begin_waits}
use Rattle.line_model.proofs.Releases.{release_sound, release_others, release_frees, release_idle, release_contents, release_distances, release_space}

pub line_laws : {E : Type 0} → Laws line (steps {E = E}) means Sound
line_laws = record {
  some_stations = λ m w. w.some_seats;
  few_stations = λ m w. w.few_seats;
  missing_free = λ m p w h. missing_free m p h;
  begin_taken = λ m p o w. refl;
  begin_refused = λ m p o w h. cond-false (can_begin m p o) (started m p o) m h;
  begin_waits = λ m p o w h. begin_waits m w p o h;
  begin_others = λ m p o w. begin_others m w p o;
  begin_contents = λ m p o w. begin_contents m w p o;
  begin_distances = λ m p o w q n. begin_distances m w p o q n;
  begin_sound = λ m p o w. begin_sound m w p o;
  touch_idle = λ m p w h. touch_idle m p h;
  touch_does = λ m p w h. touch_does m w p h;
  touch_others = λ m p w. touch_others m p;
  touch_sound = λ m p w. touch_sound m w p;
  release_frees = λ m p o a w e. release_frees m w p o a e;
  release_idle = λ m p w f. release_idle m w p f;
  release_others = λ m p w. release_others m w p;
  release_contents = λ m p w. release_contents m w p;
  release_space = λ m p w o. release_space m w p o;
  release_distances = λ m p w q n. release_distances m w p q n;
  release_sound = λ m p w. release_sound m w p;
  distance_least = λ m p w h. needs_least m.nodes m.head m.tail (seat_of m.seats p) h;
  distance_most = λ m p w h. needs_most m.nodes m.head m.tail (seat_of m.seats p) h;
  distance_falls = λ m p w h k. touch_falls m w p h k;
}
