-- Reports that are to be told later, by their keys.
use Rattle.std.specs.Prelude.{◌<◌, ◌==◌, ℕ, Bool}
use Rattle.sc_net.specs.declared.shelved.ShelvedReport.{ShelvedReport}

module _ {R : Type 0} where
  -- a report under a key, due once so many reports were told
  abbrev pub shelved : ℕ → ℕ → R → ShelvedReport R
  shelved key due report = record { key = key; due = due; report = report }

  -- a report is kept under a key
  abbrev pub is_under : ℕ → ShelvedReport R → Bool
  is_under key r = r.key == key

  -- one report was put before another
  abbrev pub IsBefore : ShelvedReport R → ShelvedReport R → Type 0
  IsBefore a b = a.key < b.key
