use Rattle.{std.proofs.Common.rules, desk_store_catalogue.proofs.{Overlays.{listed_length, no_patch, overlaid_long, overlaid_stays, part_told, read_patched}, Results.match_of}}
use Rattle.desk_store_catalogue.proofs.patch.patched_districts.Goals as goal

pub returns-in-Ok : goal.returns-in-Ok
returns-in-Ok c =
    let long = listed_length _ c.args.geography.now c.in_ok-listed.listed c.in_ok-listed.ensures in
    record {
      is = read_patched _ c.args.geography.now c.in_ok-listed.listed _ _ c.county_in_part.result c.in_ok-listed.ensures c.county_in_part.ensures c.in_default.is c.in-Ok.ensures;
      long = overlaid_long c.in_ok-listed.listed _ _ _ long c.requires c.in-Ok.ensures;
      stays = overlaid_stays c.in_ok-listed.listed _ _ _ long c.requires c.in-Ok.ensures c.span_of-span.result.first c.span_of-span.result.end c.span_of-span.ensures;
    }

pub returns-in_err-listed : goal.returns-in_err-listed
returns-in_err-listed c = search (rules, match_of, no_patch)

pub county_in_part-requires : goal.county_in_part-requires
county_in_part-requires c = listed_length _ c.args.geography.now c.in_ok-listed.listed c.in_ok-listed.ensures

pub overlay-requires : goal.overlay-requires
overlay-requires c = rw (listed_length _ c.args.geography.now c.in_ok-listed.listed c.in_ok-listed.ensures) c.requires

pub returns-in-Some : goal.returns-in-Some
returns-in-Some c = part_told _ c.args.geography.now c.in_ok-listed.listed c.in-Some.county c.in_ok-listed.ensures c.in-Some.ensures
