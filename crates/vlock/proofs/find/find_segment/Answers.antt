use Rattle.std.proofs.Common.{sym, ◌∙◌, arith}
use Rattle.way.proofs.Indexes.{index_below}
use Rattle.vlock.specs.Ruling.{ground_of}
use Rattle.vlock.proofs.Found.{may_behind_root, may_behind_entry, went, knows_current, was_owner, may_on, past_on, beside_on}
use Rattle.vlock.proofs.find.find_segment.Goals as goal

pub meet_entry-segment-requires-clause-caller : goal.meet_entry-segment-requires-clause-caller
meet_entry-segment-requires-clause-caller c = may_behind_root (ground_of c.args.image.now.key) c.meet_root-depth.result c.args.seat.now.me.0 _ c.meet_root-depth.ensures.view c.requires.caller

pub meet_entry-segment-requires-clause-place : goal.meet_entry-segment-requires-clause-place
meet_entry-segment-requires-clause-place c =
    let low = c.meet_root-depth.ensures.low in
    let most = c.requires.table.1.ground.shape.depth in
    let fits = c.ranges.hash.fits in
    let place = c.dir_index-index.ensures in
    let below = index_below c.meet_root-depth.result c.args.hash (omega (arith, low, most)) (omega (arith, fits)) in
    (low, (omega (arith, below, place)))

pub meet_head-header-requires-clause-caller : goal.meet_head-header-requires-clause-caller
meet_head-header-requires-clause-caller c =
    may_behind_entry (ground_of c.args.image.now.key) c.meet_root-depth.result c.dir_index-index.result _ c.meet_entry-segment.result c.meet_root-depth.new.seat.me.0 _ c.meet_entry-segment.ensures.view
    (may_behind_root (ground_of c.args.image.now.key) c.meet_root-depth.result c.args.seat.now.me.0 _ c.meet_root-depth.ensures.view c.requires.caller)

pub returns-then-version_of-version-clause-caller : goal.returns-then-version_of-version-clause-caller
returns-then-version_of-version-clause-caller c =
    may_on (ground_of c.args.image.now.key) c.args.hash c.meet_root-depth.result c.dir_index-index.result c.meet_entry-segment.result c.meet_head-header.result c.args.version c.args.seat.now.me.0
    c.meet_root-depth.new.seat.me.0 c.meet_entry-segment.new.seat.me.0 c.meet_head-header.new.seat.me.0 c.dir_index-index.ensures c.meet_root-depth.ensures.view c.meet_entry-segment.ensures.view c.meet_head-header.ensures.view c.requires.caller

pub returns-then-version_of-version-clause-finds : goal.returns-then-version_of-version-clause-finds
returns-then-version_of-version-clause-finds c = (
  went (ground_of c.args.image.now.key) c.args.hash c.meet_root-depth.result c.dir_index-index.result c.meet_entry-segment.result c.meet_head-header.result c.args.version c.args.seat.now.me.0
      c.meet_root-depth.new.seat.me.0 c.meet_entry-segment.new.seat.me.0 c.meet_head-header.new.seat.me.0 c.dir_index-index.ensures c.meet_root-depth.ensures.view c.meet_entry-segment.ensures.view c.meet_head-header.ensures.view c.meet_root-depth.ensures.low c.meet_entry-segment.ensures.within c.meet_head-header.ensures.live,
  λ same. c.if-version_of-version.true (c.version_of.ensures ∙ (same ∙ sym c.requires.version)),
)

pub returns-then-is_leading-clause-caller : goal.returns-then-is_leading-clause-caller
returns-then-is_leading-clause-caller c =
    may_on (ground_of c.args.image.now.key) c.args.hash c.meet_root-depth.result c.dir_index-index.result c.meet_entry-segment.result c.meet_head-header.result c.args.version c.args.seat.now.me.0
    c.meet_root-depth.new.seat.me.0 c.meet_entry-segment.new.seat.me.0 c.meet_head-header.new.seat.me.0 c.dir_index-index.ensures c.meet_root-depth.ensures.view c.meet_entry-segment.ensures.view c.meet_head-header.ensures.view c.requires.caller

pub returns-then-is_leading-clause-finds : goal.returns-then-is_leading-clause-finds
returns-then-is_leading-clause-finds c =
    let fits = c.ranges.hash.fits in
    let current = sym c.version_of.ensures ∙ c.if-version_of-version.false in
    let leads = sym c.is_leading.ensures ∙ c.if-is_leading.true in (
      went (ground_of c.args.image.now.key) c.args.hash c.meet_root-depth.result c.dir_index-index.result c.meet_entry-segment.result c.meet_head-header.result c.args.version c.args.seat.now.me.0
          c.meet_root-depth.new.seat.me.0 c.meet_entry-segment.new.seat.me.0 c.meet_head-header.new.seat.me.0 c.dir_index-index.ensures c.meet_root-depth.ensures.view c.meet_entry-segment.ensures.view c.meet_head-header.ensures.view c.meet_root-depth.ensures.low c.meet_entry-segment.ensures.within c.meet_head-header.ensures.live,
      knows_current (ground_of c.args.image.now.key) c.args.hash c.meet_root-depth.result c.dir_index-index.result c.meet_entry-segment.result c.meet_head-header.result c.args.version c.args.seat.now.me.0
          c.meet_root-depth.new.seat.me.0 c.meet_entry-segment.new.seat.me.0 c.meet_head-header.new.seat.me.0 c.dir_index-index.ensures c.meet_root-depth.ensures.view c.meet_entry-segment.ensures.view c.meet_head-header.ensures.view c.meet_head-header.ensures.live current,
      current ∙ c.requires.version,
      leads,
      was_owner (ground_of c.args.image.now.key) c.args.hash c.meet_root-depth.result c.dir_index-index.result c.meet_entry-segment.result c.meet_head-header.result c.args.version c.args.seat.now.me.0
          c.meet_root-depth.new.seat.me.0 c.meet_entry-segment.new.seat.me.0 c.meet_head-header.new.seat.me.0 c.dir_index-index.ensures c.meet_root-depth.ensures.view c.meet_entry-segment.ensures.view c.meet_head-header.ensures.view c.meet_entry-segment.ensures.within (omega (arith, fits)) leads,
    )

pub returns-else-is_leading-clause-caller : goal.returns-else-is_leading-clause-caller
returns-else-is_leading-clause-caller c =
    may_on (ground_of c.args.image.now.key) c.args.hash c.meet_root-depth.result c.dir_index-index.result c.meet_entry-segment.result c.meet_head-header.result c.args.version c.args.seat.now.me.0
    c.meet_root-depth.new.seat.me.0 c.meet_entry-segment.new.seat.me.0 c.meet_head-header.new.seat.me.0 c.dir_index-index.ensures c.meet_root-depth.ensures.view c.meet_entry-segment.ensures.view c.meet_head-header.ensures.view c.requires.caller

pub returns-else-is_leading-clause-finds : goal.returns-else-is_leading-clause-finds
returns-else-is_leading-clause-finds c =
    let current = sym c.version_of.ensures ∙ c.if-version_of-version.false in (
      went (ground_of c.args.image.now.key) c.args.hash c.meet_root-depth.result c.dir_index-index.result c.meet_entry-segment.result c.meet_head-header.result c.args.version c.args.seat.now.me.0
          c.meet_root-depth.new.seat.me.0 c.meet_entry-segment.new.seat.me.0 c.meet_head-header.new.seat.me.0 c.dir_index-index.ensures c.meet_root-depth.ensures.view c.meet_entry-segment.ensures.view c.meet_head-header.ensures.view c.meet_root-depth.ensures.low c.meet_entry-segment.ensures.within c.meet_head-header.ensures.live,
      knows_current (ground_of c.args.image.now.key) c.args.hash c.meet_root-depth.result c.dir_index-index.result c.meet_entry-segment.result c.meet_head-header.result c.args.version c.args.seat.now.me.0
          c.meet_root-depth.new.seat.me.0 c.meet_entry-segment.new.seat.me.0 c.meet_head-header.new.seat.me.0 c.dir_index-index.ensures c.meet_root-depth.ensures.view c.meet_entry-segment.ensures.view c.meet_head-header.ensures.view c.meet_head-header.ensures.live current,
      current ∙ c.requires.version,
      sym c.is_leading.ensures ∙ c.if-is_leading.false,
    )

pub meet_root-depth-requires-clause-table : goal.meet_root-depth-requires-clause-table
meet_root-depth-requires-clause-table c = c.requires.table

pub meet_entry-segment-requires-clause-table : goal.meet_entry-segment-requires-clause-table
meet_entry-segment-requires-clause-table c = c.meet_root-depth.ensures.table

pub meet_head-header-requires-clause-table : goal.meet_head-header-requires-clause-table
meet_head-header-requires-clause-table c = c.meet_entry-segment.ensures.table

pub returns-then-version_of-version-clause-table : goal.returns-then-version_of-version-clause-table
returns-then-version_of-version-clause-table c = c.meet_head-header.ensures.table

pub returns-then-version_of-version-clause-past : goal.returns-then-version_of-version-clause-past
returns-then-version_of-version-clause-past c =
    past_on (ground_of c.args.image.now.key) c.args.hash c.meet_root-depth.result c.dir_index-index.result c.meet_entry-segment.result c.meet_head-header.result c.args.version c.args.seat.now.me.0
    c.meet_root-depth.new.seat.me.0 c.meet_entry-segment.new.seat.me.0 c.meet_head-header.new.seat.me.0 c.dir_index-index.ensures c.meet_root-depth.ensures.view c.meet_entry-segment.ensures.view c.meet_head-header.ensures.view

pub returns-then-version_of-version-clause-view : goal.returns-then-version_of-version-clause-view
returns-then-version_of-version-clause-view c =
    beside_on (ground_of c.args.image.now.key) c.args.hash c.meet_root-depth.result c.dir_index-index.result c.meet_entry-segment.result c.meet_head-header.result c.args.version c.args.seat.now.me.0
    c.meet_root-depth.new.seat.me.0 c.meet_entry-segment.new.seat.me.0 c.meet_head-header.new.seat.me.0 c.dir_index-index.ensures c.meet_root-depth.ensures.view c.meet_entry-segment.ensures.view c.meet_head-header.ensures.view

pub returns-then-is_leading-clause-table : goal.returns-then-is_leading-clause-table
returns-then-is_leading-clause-table c = c.meet_head-header.ensures.table

pub returns-then-is_leading-clause-past : goal.returns-then-is_leading-clause-past
returns-then-is_leading-clause-past c =
    past_on (ground_of c.args.image.now.key) c.args.hash c.meet_root-depth.result c.dir_index-index.result c.meet_entry-segment.result c.meet_head-header.result c.args.version c.args.seat.now.me.0
    c.meet_root-depth.new.seat.me.0 c.meet_entry-segment.new.seat.me.0 c.meet_head-header.new.seat.me.0 c.dir_index-index.ensures c.meet_root-depth.ensures.view c.meet_entry-segment.ensures.view c.meet_head-header.ensures.view

pub returns-then-is_leading-clause-view : goal.returns-then-is_leading-clause-view
returns-then-is_leading-clause-view c =
    beside_on (ground_of c.args.image.now.key) c.args.hash c.meet_root-depth.result c.dir_index-index.result c.meet_entry-segment.result c.meet_head-header.result c.args.version c.args.seat.now.me.0
    c.meet_root-depth.new.seat.me.0 c.meet_entry-segment.new.seat.me.0 c.meet_head-header.new.seat.me.0 c.dir_index-index.ensures c.meet_root-depth.ensures.view c.meet_entry-segment.ensures.view c.meet_head-header.ensures.view

pub returns-else-is_leading-clause-table : goal.returns-else-is_leading-clause-table
returns-else-is_leading-clause-table c = c.meet_head-header.ensures.table

pub returns-else-is_leading-clause-past : goal.returns-else-is_leading-clause-past
returns-else-is_leading-clause-past c =
    past_on (ground_of c.args.image.now.key) c.args.hash c.meet_root-depth.result c.dir_index-index.result c.meet_entry-segment.result c.meet_head-header.result c.args.version c.args.seat.now.me.0
    c.meet_root-depth.new.seat.me.0 c.meet_entry-segment.new.seat.me.0 c.meet_head-header.new.seat.me.0 c.dir_index-index.ensures c.meet_root-depth.ensures.view c.meet_entry-segment.ensures.view c.meet_head-header.ensures.view

pub returns-else-is_leading-clause-view : goal.returns-else-is_leading-clause-view
returns-else-is_leading-clause-view c =
    beside_on (ground_of c.args.image.now.key) c.args.hash c.meet_root-depth.result c.dir_index-index.result c.meet_entry-segment.result c.meet_head-header.result c.args.version c.args.seat.now.me.0
    c.meet_root-depth.new.seat.me.0 c.meet_entry-segment.new.seat.me.0 c.meet_head-header.new.seat.me.0 c.dir_index-index.ensures c.meet_root-depth.ensures.view c.meet_entry-segment.ensures.view c.meet_head-header.ensures.view
