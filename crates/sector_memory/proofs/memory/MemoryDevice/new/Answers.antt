use Rattle.std.{specs.List.each_same, proofs.{Common.{◌∙◌, ap, get_or, [], List, ℕ, replicate}, lemmas.List.get_or-replicate}}
use Rattle.sector_memory.proofs.memory.MemoryDevice.new.Goals as goal

pub returns-clause-zeros : goal.returns-clause-zeros
returns-clause-zeros c = λ i lt. ap (λ (xs : List (List ℕ)). get_or xs i []) (c.in_ok-sectors.ensures.items_if_clones_equal (λ y same. each_same (replicate 4096 0) y same.whole)) ∙ get_or-replicate c.args.count i (replicate 4096 0) [] lt
