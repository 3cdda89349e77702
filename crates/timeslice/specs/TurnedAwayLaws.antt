-- The look-back's own tests, in order, for a store that was opened: each way out of the code is ruled.
use Rattle.std.specs.Prelude.{◌≡◌, refl, Ok, Err, ℕ, ◌*◌, ◌≤◌, ◌<◌}
use Rattle.std.proofs.Common.{arith, lt-ltb, le-ltb, le-leb}
use Rattle.std.proofs.lemmas.Bool.{lt-leb}
use Rattle.layout.specs.Sizes.{OPEN, row_len}
use Rattle.layout.specs.declared.refusal.Refusal.TheVariants as refusal
use Rattle.queries.specs.Own.{turned, free}
use Rattle.timeslice.specs.declared.past.Past.{Past}
use Rattle.timeslice.specs.Answer.{SliceRefusal}

module _ {p : Past} {rows list : ℕ} where
  pub own_open : p.second ≡ OPEN → SliceRefusal p rows list (Err refusal.TimeOpen)
  own_open b = record { own = turned (λ u. rw (le-leb OPEN p.second (omega arith))) refl }

  -- The second is not OPEN, so that it is below it.
  module _ (known : p.second < OPEN) where
    pub own_late : p.opened.head.cursor.clock < p.second → SliceRefusal p rows list (Err refusal.Late)
    own_late c = record { own = turned (λ u. rw (lt-leb OPEN p.second known, lt-ltb _ p.second c)) refl }

    module _ (past : p.second ≤ p.opened.head.cursor.clock) where
      pub own_rows : rows < row_len * p.opened.head.settings.tags → SliceRefusal p rows list (Err refusal.ShortBuffer)
      own_rows d = record { own = turned (λ u. rw (lt-leb OPEN p.second known, le-ltb _ p.second past, lt-ltb rows _ d)) refl }

      module _ (d : row_len * p.opened.head.settings.tags ≤ rows) where
        pub own_list : list < p.opened.head.settings.blocks → SliceRefusal p rows list (Err refusal.ShortBuffer)
        own_list e = record { own = turned (λ u. rw (lt-leb OPEN p.second known, le-ltb _ p.second past, le-ltb rows _ d, lt-ltb list _ e)) refl }

        pub own_none : p.opened.head.settings.blocks ≤ list → SliceRefusal p rows list (Ok tt)
        own_none e = record {
          own = free (record {
            room = (d, e);
            left = λ u. rw (lt-leb OPEN p.second known, le-ltb _ p.second past, le-ltb rows _ d, le-ltb list _ e);
          });
        }
