use Rattle.std.proofs.Common.{◌≡◌, length, get_or, sym, ap, ◌∙◌, rules}
use Rattle.std.specs.Result.{result_ok}
use Rattle.runfile.specs.Kinds.{body_kind}
use Rattle.runfile.proofs.TableLaws.{entries_split, kind_read}
use Rattle.runfile.proofs.table.EntriesIterator.next.Goals as goal

pub returns-clause-steps : goal.returns-clause-steps
returns-clause-steps c =
    let k : c.ok-kind.result ≡ body_kind (get_or c.args.self.now.0.now 0 0) = c.ok-kind.ensures.value ∙ ap result_ok c.try_from.ensures ∙ kind_read _ _ in
    entries_split c.args.self.now.0.now c.in-len5-up.len_at_least ∙ simp (sym k, sym c.from_be_bytes-size.ensures)

pub returns-clause-goes : goal.returns-clause-goes
returns-clause-goes c =
    let e = ap length (entries_split c.args.self.now.0.now c.in-len5-up.len_at_least) in
    search rules
