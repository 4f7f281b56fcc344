use Rattle.std.proofs.Common.{leb, rules, arith}
use Rattle.std.proofs.lemmas.Bool.{leb-false, leb-true}
use Rattle.std.proofs.lemmas.List.Sorted.{IsPartitionPoint-from_clause, IsPartitionedBy-leb}
use Rattle.encoded_keys.proofs.heads.count_up_to.Goals as goal

pub returns-clause-below : goal.returns-clause-below
returns-clause-below c = λ k l.
    let xs = c.args.numbers.now in
    let i = c.partition_point.result in
    let point = IsPartitionPoint-from_clause (λ n. leb n c.args.bound) xs i c.partition_point.ensures.partitioned (IsPartitionedBy-leb (λ n. n) xs c.args.bound c.requires) (λ a r f' k. search rules) in
    leb-true _ _ (point.0 k 0 (omega arith) l)

pub returns-clause-others : goal.returns-clause-others
returns-clause-others c = λ k l m.
    let xs = c.args.numbers.now in
    let i = c.partition_point.result in
    let point = IsPartitionPoint-from_clause (λ n. leb n c.args.bound) xs i c.partition_point.ensures.partitioned (IsPartitionedBy-leb (λ n. n) xs c.args.bound c.requires) (λ a r f' k. search rules) in
    leb-false _ _ (point.1 k 0 l m)
