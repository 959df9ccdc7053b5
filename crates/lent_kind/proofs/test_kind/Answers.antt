-- `lent_kind::test_kind` meets its contract: entries that are not whole and names that the kind does not have are a name too many; else the kind is the
-- one that the entries' words mean, which `makeable` tests.
-- Assumes nothing.
use Rattle.lent_kind.proofs.Laws.{torn_refused, unclean_refused, unmade_refused, undefined_refused, kind_passed}
use Rattle.lent_kind.proofs.test_kind.Goals.{then-not-names_clean-via-then-not-names_clean, then-not-names_clean-via-else-not-names_clean+then-not-can_be_made}
use Rattle.lent_kind.proofs.test_kind.Goals as goal

pub returns-then-entries-ne0 : goal.returns-then-entries-ne0
returns-then-entries-ne0 c = let a = c.args in
    torn_refused a.env.now a.k a.entries.now c.if-entries-ne0.true

pub returns-then-not-names_clean : goal.returns-then-not-names_clean
returns-then-not-names_clean c = let a = c.args in
    elim c.then-not-names_clean.branch [
      | then-not-names_clean-via-then-not-names_clean w ↦
          unclean_refused a.env.now a.k a.entries.now c.flagged.ensures c.entry_count.ensures c.if-entries-ne0.false
          c.names_clean.ensures w.if-not-names_clean.true
      | then-not-names_clean-via-else-not-names_clean+then-not-can_be_made w ↦
          unmade_refused a.env.now a.k a.entries.now c.flagged.ensures c.entry_count.ensures c.if-entries-ne0.false
          c.names_clean.ensures w.if-not-names_clean.false w.can_be_made.ensures
          w.if-not-can_be_made.true
    ]

pub returns-then-not-is_defined : goal.returns-then-not-is_defined
returns-then-not-is_defined c = let a = c.args in
    undefined_refused a.env.now a.k a.entries.now c.flagged.ensures c.entry_count.ensures c.if-entries-ne0.false
    c.names_clean.ensures c.if-not-names_clean.false c.can_be_made.ensures c.is_defined.ensures
    c.if-not-can_be_made.false c.if-not-is_defined.true

pub returns : goal.returns
returns c = let a = c.args in
    kind_passed a.env.now a.k a.entries.now c.flagged.ensures c.entry_count.ensures c.if-entries-ne0.false
    c.names_clean.ensures c.if-not-names_clean.false c.can_be_made.ensures c.is_defined.ensures
    c.if-not-can_be_made.false c.if-not-is_defined.false
